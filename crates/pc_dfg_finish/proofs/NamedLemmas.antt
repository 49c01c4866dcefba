-- Named entries that are copied in order: the next name is absent from the copies before it.
use Rattle.std.proofs.Common.{◌≡◌, ℕ, zero, suc, ◌+◌, ◌<◌, ◌≤◌, Bool, true, false, List, [], ◌∷◌, ◌++◌, Option, None}
use Rattle.std.proofs.Common.{Some, length, map, take, drop, if◌then◌else◌, refl, sym, ap, subst, ◌∙◌, arith}
use Rattle.std.specs.Prelude.{slice_get, option_map}
use Rattle.std.proofs.lemmas.List.{take-append-drop, length-take-le, map-append}
use Rattle.std.proofs.lemmas.Option.{none-some, same_Some, slice_get-map, slice_get_within}
use Rattle.std.proofs.lemmas.Slice.Eq.{bytes_eq-Decides}
use Rattle.std.specs.Str.{bytes_eq}
use Rattle.pc_entity.specs.Lists.{AreDistinct, names_of, value_of}
use Rattle.pc_entity.proofs.Growing.{slice_get-append, take-next}

-- what a function made something of
pub behind_map : {A B : Type 0} (f : A → B) (o : Option A) (y : B) → option_map f o ≡ Some y
    → (x : A) × (o ≡ Some x) × (f x ≡ y)
behind_map f None y h = absurd (none-some y h)
behind_map f (Some x) y h = (x, refl, same_Some (f x) y h)

-- an item in front stands at the same place in the whole list
pub in_front : {A : Type 0} (xs : List A) (i k : ℕ) (x : A) → i ≤ length xs → slice_get (take i xs) k ≡ Some x
    → (k < i) × (slice_get xs k ≡ Some x)
in_front xs i k x within at =
    let long = length-take-le i xs within in
    let below = slice_get_within (take i xs) k x at in (
      omega (arith, long, below),
      subst (λ ys. slice_get ys k ≡ Some x) (take-append-drop i xs)
          (slice_get-append (take i xs) (drop i xs) k x at),
    )

-- a name that no entry has is absent
no_value : {V : Type 0} (name : List ℕ) (es : List (List ℕ × V))
    → ((k : ℕ) (e : List ℕ × V) → slice_get es k ≡ Some e → name ≡ e.0 → ⊥) → value_of name es ≡ None
no_value name [] none = refl
no_value {V} name (e ∷ es) none =
    by (bytes_eq name e.0) refl (no_value name es (λ k x at. none (suc k) x at))
  where
    by : (b : Bool) → bytes_eq name e.0 ≡ b → value_of name es ≡ None
        → (if b then Some e.1 else value_of name es) ≡ None
    by true h rest = absurd (none zero e refl ((bytes_eq-Decides name e.0).0 h))
    by false h rest = rest

-- the next of some distinct names is absent from those before it, whatever their values became
pub next_absent : {V W : Type 0} (f : V → W) (es : List (List ℕ × V)) (i : ℕ) (e : List ℕ × V)
    → AreDistinct (names_of es) → slice_get es i ≡ Some e
    → value_of e.0 (map (λ (a : List ℕ × V). (a.0, f a.1)) (take i es)) ≡ None
next_absent {V} {W} f es i e distinct at =
    no_value e.0 (map (λ (a : List ℕ × V). (a.0, f a.1)) (take i es)) (λ k x there same.
    let of : List ℕ × V → List ℕ × W = λ a. (a.0, f a.1) in
    let within = slice_get_within es i e at in
    let behind = behind_map of (slice_get (take i es) k) x (sym (slice_get-map of (take i es) k) ∙ there) in
    let front = in_front es i k behind.0 (omega (arith, within)) behind.1 in
    let name = λ (a : List ℕ × V). a.0 in
    let first : slice_get (names_of es) k ≡ Some e.0 =
    slice_get-map name es k ∙ ap (option_map name) front.1
    ∙ ap Some (ap (λ (y : List ℕ × W). y.0) behind.2 ∙ sym same) in
    let second : slice_get (names_of es) i ≡ Some e.0 = slice_get-map name es i ∙ ap (option_map name) at in
    let one = distinct k i e.0 first second in
    absurd (omega (arith, front.0, one)))

module _ {V W : Type 0} (f : V → W) (es : List (List ℕ × V)) (i : ℕ) (e : List ℕ × V) (at : slice_get es i ≡ Some e)
    (copies : List (List ℕ × W)) (so_far : copies ≡ map (λ (a : List ℕ × V). (a.0, f a.1)) (take i es)) where
  -- the copy of the next name may be added
  pub copy_absent : (name : List ℕ) → name ≡ e.0 → AreDistinct (names_of es) → value_of name copies ≡ None
  copy_absent name same distinct =
      (λ j. value_of (same j) (so_far j)) ∙ next_absent f es i e distinct at

  -- and then the copies are those up to the next place
  pub copy_next : (name : List ℕ) (value : W) (more : List (List ℕ × W)) → name ≡ e.0 → value ≡ f e.1
      → more ≡ copies ++ (name, value) ∷ [] → more ≡ map (λ (a : List ℕ × V). (a.0, f a.1)) (take (i + 1) es)
  copy_next name value more same is pushed =
      let of : List ℕ × V → List ℕ × W = λ a. (a.0, f a.1) in
      pushed ∙ (λ j. so_far j ++ (same j, is j) ∷ [])
      ∙ sym (ap (map of) (take-next es i e at) ∙ map-append of (take i es) (e ∷ []))
