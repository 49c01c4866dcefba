-- The name of the next part is none of those before it.
use Rattle.std.proofs.Common.{◌≡◌, ◌<◌, ◌∙◌, ◌++◌, ℕ, zero, suc, Bool, true, false, not, ◌||◌, List, [], ◌∷◌, map}
use Rattle.std.proofs.Common.{take, Option, None, Some, refl, sym, ap, subst, arith, if◌then◌else◌, true≢false}
use Rattle.std.specs.Prelude.{slice_get}
use Rattle.std.specs.List.{list_any}
use Rattle.std.specs.Option.{option_map}
use Rattle.std.specs.Str.{bytes_eq}
use Rattle.pc_entity.proofs.Elements.{and_true}
use Rattle.std.proofs.lemmas.List.{map-append}
use Rattle.std.proofs.lemmas.Option.{none-some, same_Some}
use Rattle.pc_entity.specs.Lists.{AreDistinct, names_of, value_of}
use Rattle.pc_entity.proofs.Naming.{bytes_eq-refl}
use Rattle.pc_types.specs.Names.{are_distinct, distinct_names}
use Rattle.std.proofs.lemmas.Slice.Eq.{bytes_eq-Decides}

-- a place of a list that a function was taken of
pub slice_mapped : {A B : Type 0} (f : A → B) (xs : List A) (n : ℕ)
    → slice_get (map f xs) n ≡ option_map f (slice_get xs n)
slice_mapped f [] n = refl
slice_mapped f (x ∷ xs) zero = refl
slice_mapped f (x ∷ xs) (suc n) = slice_mapped f xs n

-- the first items of a list, and one more
pub take_more : {A : Type 0} (xs : List A) (n : ℕ) (x : A) → slice_get xs n ≡ Some x
    → take (suc n) xs ≡ take n xs ++ x ∷ []
take_more [] n x is = absurd (none-some x is)
take_more (y ∷ xs) zero x is = ap (λ z. z ∷ []) (same_Some y x is)
take_more (y ∷ xs) (suc n) x is = ap (λ l. y ∷ l) (take_more xs n x is)

-- where an item of the first ones stands
taken_at : {A : Type 0} (xs : List A) (n i : ℕ) (x : A) → slice_get (take n xs) i ≡ Some x
    → (i < n) × (slice_get xs i ≡ Some x)
taken_at [] zero i x is = absurd (none-some x is)
taken_at [] (suc n) i x is = absurd (none-some x is)
taken_at (y ∷ xs) zero i x is = absurd (none-some x is)
taken_at (y ∷ xs) (suc n) zero x is = (omega arith, is)
taken_at (y ∷ xs) (suc n) (suc i) x is =
    let rest = taken_at xs n i x is in (let less = rest.0 in omega (arith, less), rest.1)

-- a name that stands nowhere has no value
nowhere_absent : {V : Type 0} (name : List ℕ) (es : List (List ℕ × V))
    → ((i : ℕ) → slice_get (names_of es) i ≡ Some name → ⊥) → value_of name es ≡ None
nowhere_absent name [] none = refl
nowhere_absent {V} name (e ∷ es) none = by (bytes_eq name e.0) refl (nowhere_absent name es (λ i. none (suc i)))
  where
    by : (b : Bool) → bytes_eq name e.0 ≡ b → value_of name es ≡ None
        → ◌≡◌ {A = Option V} (if b then Some e.1 else value_of name es) None
    by true h rest = absurd (none zero (ap Some (sym ((bytes_eq-Decides name e.0).0 h))))
    by false h rest = rest

-- the next of names that stand once is none of those before it
pub next_absent : {V : Type 0} (names : List (List ℕ)) → AreDistinct names → (n : ℕ) (name : List ℕ)
    → slice_get names n ≡ Some name → (es : List (List ℕ × V)) → names_of es ≡ take n names → value_of name es ≡ None
next_absent names apart n name at es are =
    nowhere_absent name es (λ i here.
    let there = taken_at names n i name (subst (λ l. slice_get l i ≡ Some name) are here) in
    let same = apart i n name there.1 at in
    let less = there.0 in
    absurd (omega (arith, same, less)))

-- with its item the names are those up to it
pub names_more : {V : Type 0} (names : List (List ℕ)) (n : ℕ) (name : List ℕ) → slice_get names n ≡ Some name
    → (es : List (List ℕ × V)) → names_of es ≡ take n names → (label : List ℕ) → label ≡ name → (v : V)
    → names_of (es ++ (label, v) ∷ []) ≡ take (suc n) names
names_more names n name at es are label same v =
    map-append (λ e. e.0) es ((label, v) ∷ []) ∙ ap (λ l. l ++ label ∷ []) are
    ∙ ap (λ l. take n names ++ l ∷ []) same ∙ sym (take_more names n name at)

any_there : (name : List ℕ) (xs : List (List ℕ)) (n : ℕ) → slice_get xs n ≡ Some name
    → list_any (bytes_eq name) xs ≡ true
any_there name [] n at = absurd (none-some name at)
any_there name (x ∷ xs) zero at = rw (same_Some x name at, bytes_eq-refl name) refl
any_there name (x ∷ xs) (suc n) at = by (bytes_eq name x) (any_there name xs n at)
  where
    by : (b : Bool) → list_any (bytes_eq name) xs ≡ true → (b || list_any (bytes_eq name) xs) ≡ true
    by true rest = refl
    by false rest = rest

-- names that are tested to stand once do
pub tested_apart : (xs : List (List ℕ)) → distinct_names xs ≡ true → AreDistinct xs
tested_apart [] distinct i j x at_i at_j = absurd (none-some x at_i)
tested_apart (y ∷ xs) distinct zero zero x at_i at_j = refl
tested_apart (y ∷ xs) distinct zero (suc j) x at_i at_j =
    let both = and_true (not (list_any (bytes_eq y) xs)) (are_distinct bytes_eq xs) distinct in
    let met = any_there y xs j (at_j ∙ sym at_i) in
    absurd (true≢false (sym both.0 ∙ ap not met))
tested_apart (y ∷ xs) distinct (suc i) zero x at_i at_j =
    let both = and_true (not (list_any (bytes_eq y) xs)) (are_distinct bytes_eq xs) distinct in
    let met = any_there y xs i (at_i ∙ sym at_j) in
    absurd (true≢false (sym both.0 ∙ ap not met))
tested_apart (y ∷ xs) distinct (suc i) (suc j) x at_i at_j =
    let both = and_true (not (list_any (bytes_eq y) xs)) (are_distinct bytes_eq xs) distinct in
    ap suc (tested_apart xs both.1 i j x at_i at_j)
