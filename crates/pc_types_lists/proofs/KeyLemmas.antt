-- Types with labels are found by the keys beside them, and keys stay beside the types as the lists grow.
use Rattle.std.proofs.Common.{◌≡◌, ℕ, ◌+◌, ◌<◌, ◌≤◌, List, [], ◌∷◌, ◌++◌, length, Contains, Some, refl, sym, subst}
use Rattle.std.proofs.Common.{ap, ◌∙◌, arith, zero, suc, inl, inr}
use Rattle.std.specs.Prelude.{◌⊎◌, IfOk, Result, slice_get}
use Rattle.std.proofs.lemmas.List.{length-append}
use Rattle.std.proofs.lemmas.Option.{none-some, same_Some, slice_get-get_or, slice_get_within}
use Rattle.std.proofs.lemmas.Result.{IfOk-weaker}
use Rattle.pc_entity.specs.Lists.{AreDistinct, Kept}
use Rattle.pc_entity.proofs.Growing.{append_kept, kept_refl, slice_get-append_seam}
use Rattle.pc_entity.proofs.LookupLemmas.{found_at}
use Rattle.pc_types_lists.specs.Interned.{IsPut, IsPutKeyed}
use Rattle.pc_types_lists.specs.Labels.{AreKeyed, HasLabelsOf}
use Rattle.pc_types_lists.proofs.Growth.{contains_at}

module _ {A : Type 0} where
  -- what is contained is found
  found_in : (xs : List A) (x : A) → Contains xs x → (i : ℕ) × (slice_get xs i ≡ Some x)
  found_in xs x has = (has.0, slice_get-get_or xs has.0 x has.1 ∙ ap Some has.2)

  -- what is found once an item was appended was found before, or is that item
  found_before : (xs : List A) (y : A) (i : ℕ) (x : A) → slice_get (xs ++ y ∷ []) i ≡ Some x
      → (slice_get xs i ≡ Some x) ⊎ ((i ≡ length xs) × (y ≡ x))
  found_before [] y zero x h = inr (refl, same_Some y x h)
  found_before [] y (suc i) x h = absurd (none-some x h)
  found_before (z ∷ xs) y zero x h = inl h
  found_before (z ∷ xs) y (suc i) x h =
      elim (found_before xs y i x h) as (λ _. (slice_get xs i ≡ Some x) ⊎ ((suc i ≡ suc (length xs)) × (y ≡ x))) [
        | inl at ↦ inl at
        | inr last ↦ inr (ap suc last.0, last.1)
      ]

  -- no item stands at two places, where one that is new was appended
  pub distinct_more : (xs : List A) (y : A) → AreDistinct xs → (Contains xs y → ⊥) → AreDistinct (xs ++ y ∷ [])
  distinct_more xs y once new i j x at_i at_j =
      elim (found_before xs y i x at_i) as (λ _. i ≡ j) [
        | inl p ↦ elim (found_before xs y j x at_j) as (λ _. i ≡ j) [
          | inl q ↦ once i j x p q
          | inr q ↦ absurd (new (contains_at xs i y (p ∙ ap Some (sym q.1))))
        ]
        | inr p ↦ elim (found_before xs y j x at_j) as (λ _. i ≡ j) [
          | inl q ↦ absurd (new (contains_at xs j y (q ∙ ap Some (sym p.1))))
          | inr q ↦ p.0 ∙ sym q.0
        ]
      ]

module _ {V L P : Type 0} {labels : V → L} {parts : V → P} {names : List L} {keys : List (ℕ × P)} {types : List V}
    (keyed : AreKeyed labels parts names keys types) where
  -- a type has the key of its labels' number and its parts
  key_at : (i m : ℕ) (v : V) → slice_get types i ≡ Some v → slice_get names m ≡ Some (labels v)
      → slice_get keys i ≡ Some (m, parts v)
  key_at i m v at named =
      let k = keyed.each i v at in
      let same : k.0 ≡ m = keyed.names_once k.0 m (labels v) k.2 named in
      k.1 ∙ ap (λ n. Some (n, parts v)) same

  -- the type of a key has labels with that number, and those parts
  type_at : (i m : ℕ) (p : P) → slice_get keys i ≡ Some (m, p)
      → (u : V) × (slice_get types i ≡ Some u) × (slice_get names m ≡ Some (labels u)) × (parts u ≡ p)
  type_at i m p at =
      let within : i < length types = subst (λ n. i < n) keyed.as_many (slice_get_within keys i (m, p) at) in
      let f = found_at types i within in
      let k = keyed.each i f.0 f.1 in
      let same = same_Some (k.0, parts f.0) (m, p) (sym k.1 ∙ at) in
      (f.0, f.1, ap (slice_get names) (sym (ap (λ q. q.0) same)) ∙ k.2, ap (λ q. q.1) same)

  -- a type that is contained has its key among the keys
  key_held : (m : ℕ) (v : V) → slice_get names m ≡ Some (labels v) → Contains types v → Contains keys (m, parts v)
  key_held m v named has =
      let f = found_in types v has in
      contains_at keys f.0 (m, parts v) (key_at f.0 m v f.1 named)

  -- the labels of a type that is held have the number in the key of one that has the same
  pub like_named : (n : ℕ) (v : V) (key : ℕ × P) → HasLabelsOf labels types n v → slice_get keys n ≡ Some key
      → slice_get names key.0 ≡ Some (labels v)
  like_named n v key like at =
      let t = type_at n key.0 key.1 at in
      let same = same_Some t.0 like.0 (sym t.1 ∙ like.1) in
      t.2 ∙ ap (λ w. Some (labels w)) same ∙ ap Some like.2

  -- a type whose labels are new is new
  pub new_type : (v : V) (l : L) → l ≡ labels v → (Contains names l → ⊥) → Contains types v → ⊥
  new_type v l has new found =
      let f = found_in types v found in
      let k = keyed.each f.0 v f.1 in
      new (contains_at names k.0 l (k.2 ∙ ap Some (sym has)))

  -- a type and its key are put at the ends of their lists
  keyed_more : (more : List L) (m : ℕ) (v : V) → Kept names more → AreDistinct more
      → length more ≤ length types + 1 → slice_get more m ≡ Some (labels v) → (Contains keys (m, parts v) → ⊥)
      → AreKeyed labels parts more (keys ++ (m, parts v) ∷ []) (types ++ v ∷ [])
  keyed_more more m v kept once few named new = record {
    as_many = simp length-append (ap (λ n. n + 1) keyed.as_many);
    each = each;
    names_once = once;
    keys_once = distinct_more keys (m, parts v) keyed.keys_once new;
    few = simp length-append few;
  }
    where
      each : (i : ℕ) (u : V) → slice_get (types ++ v ∷ []) i ≡ Some u
          → (n : ℕ) × (slice_get (keys ++ (m, parts v) ∷ []) i ≡ Some (n, parts u))
          × (slice_get more n ≡ Some (labels u))
      each i u at =
          elim (found_before types v i u at)
          as (λ _. (n : ℕ) × (slice_get (keys ++ (m, parts v) ∷ []) i ≡ Some (n, parts u))
          × (slice_get more n ≡ Some (labels u))) [
            | inl before ↦
                let k = keyed.each i u before in
                (k.0, append_kept keys ((m, parts v) ∷ []) i (k.0, parts u) k.1, kept k.0 (labels u) k.2)
            | inr last ↦ (
              m,
              ap (slice_get (keys ++ (m, parts v) ∷ [])) (last.0 ∙ sym keyed.as_many)
                  ∙ slice_get-append_seam keys (m, parts v) [] ∙ ap (λ w. Some (m, parts w)) last.1,
              named ∙ ap (λ w. Some (labels w)) last.1,
            )
          ]

-- Lists of types and of their keys that a type was put into, whose labels are new.
module _ {V L P : Type 0} {labels : V → L} {parts : V → P} {names : List L} {keys : List (ℕ × P)} {types : List V}
    (keyed : AreKeyed labels parts names keys types) (more : List L) (l : L) (m : ℕ) (v : V) (p : P)
    (has : l ≡ labels v) (is : p ≡ parts v) (grows : (more ≡ names) ⊎ (more ≡ names ++ l ∷ []))
    (once : AreDistinct more) (at : slice_get more m ≡ Some l) (new : Contains names l → ⊥) where
  -- the other labels keep their numbers
  labels_kept : Kept names more
  labels_kept = elim grows as (λ _. Kept names more) [
    | inl same ↦ subst (Kept names) (sym same) (kept_refl names)
    | inr pushed ↦ subst (Kept names) (sym pushed) (append_kept names (l ∷ []))
  ]

  -- there is one more at most
  labels_few : length more ≤ length types + 1
  labels_few = elim grows as (λ _. length more ≤ length types + 1) [
    | inl same ↦ rw same (omega (arith, keyed.few))
    | inr pushed ↦ rw pushed (simp length-append (omega (arith, keyed.few)))
  ]

  -- the key is new
  pub key_new : Contains keys (m, p) → ⊥
  key_new found =
      let f = found_in keys (m, p) found in
      let t = type_at keyed f.0 m p f.1 in
      new (contains_at names m l (t.2 ∙ sym (labels_kept m (labels t.0) t.2) ∙ at))

  -- each type has its key
  pub keyed_new : (more_keys : List (ℕ × P)) (more_types : List V) → more_keys ≡ keys ++ (m, p) ∷ []
      → more_types ≡ types ++ v ∷ [] → AreKeyed labels parts more more_keys more_types
  keyed_new more_keys more_types pushed put =
      subst (λ ks. AreKeyed labels parts more ks more_types)
      (sym (pushed ∙ ap (λ q. keys ++ (m, q) ∷ []) is))
      (subst (AreKeyed labels parts more (keys ++ (m, parts v) ∷ [])) (sym put)
      (keyed_more keyed more m v labels_kept once labels_few (at ∙ ap Some has)
      (subst (λ q. Contains keys (m, q) → ⊥) is key_new)))

-- Lists of types and of their keys that a type was put into, whose labels had a number.
module _ {V L P : Type 0} {labels : V → L} {parts : V → P} {names : List L} {keys : List (ℕ × P)} {types : List V}
    (keyed : AreKeyed labels parts names keys types) (more_keys : List (ℕ × P)) (more : List V) (m : ℕ) (v : V) (p : P)
    (named : slice_get names m ≡ Some (labels v)) (is : p ≡ parts v)
    (put : IsPutKeyed keys more_keys types more (m, p) v) where
  -- the key is that of the type
  put_parts : IsPutKeyed keys more_keys types more (m, parts v) v
  put_parts = subst (λ q. IsPutKeyed keys more_keys types more (m, q) v) is put

  -- each type has its key
  pub keyed_put : AreKeyed labels parts names more_keys more
  keyed_put = elim put_parts as (λ _. AreKeyed labels parts names more_keys more) [
    | inl same ↦ subst (λ ks. AreKeyed labels parts names ks more) (sym same.0)
        (subst (AreKeyed labels parts names keys) (sym same.1) keyed)
    | inr pair ↦ subst (λ ks. AreKeyed labels parts names ks more) (sym pair.0)
        (subst (AreKeyed labels parts names (keys ++ (m, parts v) ∷ [])) (sym pair.1)
        (keyed_more keyed names m v (kept_refl names) keyed.names_once (omega (arith, keyed.few)) named pair.2))
  ]

  -- the type was put
  pub type_put : IsPut types more v
  type_put = elim put_parts as (λ _. IsPut types more v) [
    | inl same ↦ inl same.1
    | inr pair ↦ inr (pair.1, λ has. pair.2 (key_held keyed m v named has))
  ]

  -- a number under which the key stands is the type's
  pub put_held : ((u w : V) → labels u ≡ labels w → parts u ≡ parts w → u ≡ w) → {E : Type 0} (r : Result ℕ E)
      → IfOk r (λ i. slice_get more_keys i ≡ Some (m, p)) → IfOk r (λ i. slice_get more i ≡ Some v)
  put_held told r held =
      IfOk-weaker r (λ i. slice_get more_keys i ≡ Some (m, p)) (λ i. slice_get more i ≡ Some v) type_of_key held
    where
      type_of_key : (i : ℕ) → slice_get more_keys i ≡ Some (m, p) → slice_get more i ≡ Some v
      type_of_key i at =
          let t = type_at keyed_put i m p at in
          t.1 ∙ ap Some (told t.0 v (same_Some (labels t.0) (labels v) (sym t.2 ∙ named)) (t.3 ∙ is))

  -- there are as many types as keys, and a type whose key is absent is absent
  pub put_full : (n : ℕ) → (length more_keys ≡ n) × (Contains more_keys (m, p) → ⊥)
      → (length more ≡ n) × (Contains more v → ⊥)
  put_full n full = (
    sym keyed_put.as_many ∙ full.0,
    λ has. full.1 (subst (λ q. Contains more_keys (m, q)) (sym is) (key_held keyed_put m v named has)),
  )
