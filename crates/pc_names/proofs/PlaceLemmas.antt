-- Places of keys, after a key more, one fewer, or another value.
use Rattle.std.proofs.Common.{◌≡◌, ℕ, zero, suc, Bool, true, false, cond, List, [], ◌∷◌, ◌++◌, length}
use Rattle.std.proofs.Common.{◌+◌, append_assoc, position, Option, Some, None, refl, sym, ap, ◌∙◌, arith, inl, inr, ◌⊎◌}
use Rattle.std.proofs.lemmas.Bool.{cases_Bool}
use Rattle.std.proofs.lemmas.Iterator.Adapters.{position_from-zero}
use Rattle.std.proofs.lemmas.Option.{same_Some}
use Rattle.std.specs.Cmp.{IsEquivalence}
use Rattle.std.specs.List.{AllByRecursion, IsDistinct, position_from, slice_get}
use Rattle.std.specs.Map.{keys_of, lookup, set_value}
use Rattle.std.specs.Option.{is_some, option_map, option_or}
use Rattle.indexmap.specs.IndexMap.{insert_entry, set_value_at}
use Rattle.pc_names.specs.Definitions.{HaveOwnPlaces, place_by, place_in, with_value}

-- a place further on
suc_inside : (o : Option ℕ) (b : Bool) (n : ℕ)
    → option_map suc (option_or o (cond b (Some n) None)) ≡ option_or (option_map suc o) (cond b (Some (suc n)) None)
suc_inside (Some p) b n = refl
suc_inside None true n = refl
suc_inside None false n = refl

-- a place that is further on than one is that one and one more
further : (o : Option ℕ) (p : ℕ) → option_map suc o ≡ Some p → (q : ℕ) × (o ≡ Some q) × (p ≡ suc q)
further None p h = cc
further (Some q) p h = (q, refl, let e : Some (suc q) ≡ Some p = h in grind arith)

-- a place counted from one number on is one counted from the next, one further
counted_on : (i : ℕ) (o : Option ℕ)
    → option_map (λ p. i + 1 + p) o ≡ option_map (λ p. i + p) (option_map suc o)
counted_on i None = refl
counted_on i (Some p) = ap Some (omega arith)

-- a place counted from the first is the place
counted_from_first : (o : Option ℕ) → option_map (λ p. 0 + p) o ≡ o
counted_from_first None = refl
counted_from_first (Some p) = ap Some (omega arith)

-- nothing is made only of nothing
pub none_inside_map : {A B : Type 0} (f : A → B) (o : Option A) → option_map f o ≡ None → o ≡ None
none_inside_map f None e = refl
none_inside_map f (Some x) e = cc

module _ {K : Type 0} (test : K → Bool) where
  -- the place, where keys are counted from a number on
  position_from-place_by : (i : ℕ) (ks : List K)
      → position_from test i ks ≡ option_map (λ p. i + p) (place_by test ks)
  position_from-place_by i [] = refl
  position_from-place_by i (k ∷ ks) = elim (cases_Bool (test k)) [
    | inl here ↦ rw here (ap Some (omega arith))
    | inr other ↦ rw (other, position_from-place_by (i + 1) ks) (counted_on i (place_by test ks))
  ]

  -- the place that a map's look-up finds is the place of the first key that passes
  pub position-place_by : (ks : List K) → position test ks ≡ place_by test ks
  position-place_by ks =
      position_from-zero test ks ∙ position_from-place_by 0 ks ∙ counted_from_first (place_by test ks)

  -- one key more is found where none before it passes
  pub place_by-push : (ks : List K) (k : K)
      → place_by test (ks ++ k ∷ []) ≡ option_or (place_by test ks) (cond (test k) (Some (length ks)) None)
  place_by-push [] k = elim (cases_Bool (test k)) [ inl here ↦ rw here refl | inr other ↦ rw other refl ]
  place_by-push (x ∷ ks) k = elim (cases_Bool (test x)) [
    | inl here ↦ rw here refl
    | inr other ↦ rw (other, place_by-push ks k) (suc_inside (place_by test ks) (test k) (length ks))
  ]

  -- a place among the first keys is their place in the whole
  pub place_by-front : (ks rest : List K) (p : ℕ) → place_by test ks ≡ Some p → place_by test (ks ++ rest) ≡ Some p
  place_by-front [] rest p h = cc
  place_by-front (x ∷ ks) rest p h = elim (cases_Bool (test x)) [
    | inl here ↦ rw here (rw here at h)
    | inr other ↦
        let f = further (place_by test ks) p (rw other at h) in
        rw (other, place_by-front ks rest f.0 f.1) (ap Some (sym f.2))
  ]

module _ {K V : Type 0} (test : K → Bool) where
  -- the value at the place of a key is the one that a look-up finds
  pub value_at_place : (ds : List (K × V)) (p : ℕ) → place_by test (keys_of ds) ≡ Some p
      → option_map (λ d. d.1) (slice_get ds p) ≡ lookup test ds
  value_at_place [] p h = cc
  value_at_place (d ∷ ds) p h = elim (cases_Bool (test d.0)) [
    | inl here ↦ let e : Some 0 ≡ Some p = rw here at h in let first : p ≡ 0 = grind arith in rw (here, first) refl
    | inr other ↦
        let f =
        further (place_by test (keys_of ds)) p (rw other at h) in rw (other, f.2) (value_at_place ds f.0 f.1)
  ]

  -- a key without a place has no value
  pub lookup-no_place : (ds : List (K × V)) → place_by test (keys_of ds) ≡ None → lookup test ds ≡ None
  lookup-no_place [] h = refl
  lookup-no_place (d ∷ ds) h = elim (cases_Bool (test d.0)) [
    | inl here ↦ cc (rw here at h)
    | inr other ↦ rw other (lookup-no_place ds (none_inside_map suc (place_by test (keys_of ds)) (rw other at h)))
  ]

  -- a key has a place exactly where a look-up finds a value
  pub is_some-lookup : (ds : List (K × V)) → is_some (place_by test (keys_of ds)) ≡ is_some (lookup test ds)
  is_some-lookup [] = refl
  is_some-lookup (d ∷ ds) = elim (cases_Bool (test d.0)) [
    | inl here ↦ rw here refl
    | inr other ↦ rw other (is_some-inside (place_by test (keys_of ds)) ∙ is_some-lookup ds)
  ] where
    is_some-inside : (o : Option ℕ) → is_some (option_map suc o) ≡ is_some o
    is_some-inside None = refl
    is_some-inside (Some p) = refl

  -- a write at the place of a key is a write at the key
  pub with_value-place : (ds : List (K × V)) (p : ℕ) (v : V) → place_by test (keys_of ds) ≡ Some p
      → with_value ds p v ≡ set_value test ds v
  with_value-place [] p v h = cc
  with_value-place (d ∷ ds) p v h = elim (cases_Bool (test d.0)) [
    | inl here ↦ let e : Some 0 ≡ Some p = rw here at h in let first : p ≡ 0 = grind arith in rw (here, first) refl
    | inr other ↦
        let f = further (place_by test (keys_of ds)) p (rw other at h) in
        rw (other, f.2) (ap (λ (l : List (K × V)). d ∷ l) (with_value-place ds f.0 v f.1))
  ]

module _ {K V : Type 0} where
  -- a value that is written leaves the keys
  pub keys_of-with_value : (ds : List (K × V)) (p : ℕ) (v : V) → keys_of (with_value ds p v) ≡ keys_of ds
  keys_of-with_value [] p v = refl
  keys_of-with_value (d ∷ ds) zero v = refl
  keys_of-with_value (d ∷ ds) (suc p) v = ap (λ (l : List K). d.0 ∷ l) (keys_of-with_value ds p v)

  -- a write by the place in the map is a write at the place
  pub set_value_at-with_value : (ds : List (K × V)) (p : ℕ) (v : V) → set_value_at ds p v ≡ with_value ds p v
  set_value_at-with_value [] p v = refl
  set_value_at-with_value (d ∷ ds) zero v = refl
  set_value_at-with_value (d ∷ ds) (suc p) v = ap (λ (l : List (K × V)). d ∷ l) (set_value_at-with_value ds p v)

  -- past the end there is nothing to write
  pub with_value-past : (ds : List (K × V)) (p : ℕ) (v : V) → slice_get ds p ≡ None → with_value ds p v ≡ ds
  with_value-past [] p v h = refl
  with_value-past (x ∷ ds) zero v h = cc
  with_value-past (x ∷ ds) (suc p) v h = ap (λ (l : List (K × V)). x ∷ l) (with_value-past ds p v h)

  -- the keys of one list after another
  pub keys_of-append : (xs ys : List (K × V)) → keys_of (xs ++ ys) ≡ keys_of xs ++ keys_of ys
  keys_of-append [] ys = refl
  keys_of-append (x ∷ xs) ys = ap (λ (l : List K). x.0 ∷ l) (keys_of-append xs ys)

-- nothing adds nothing
pub option_or-None : {A : Type 0} (o : Option A) → option_or o None ≡ o
option_or-None None = refl
option_or-None (Some x) = refl

module _ {A : Type 0} where
  -- an element after a push is one from before, or the last
  pub slice_get-push : (xs : List A) (y : A) (p : ℕ) (x : A) → slice_get (xs ++ y ∷ []) p ≡ Some x
      → (slice_get xs p ≡ Some x) ⊎ ((p ≡ length xs) × (y ≡ x))
  slice_get-push [] y zero x h = inr (refl, same_Some y x h)
  slice_get-push [] y (suc p) x h = cc
  slice_get-push (z ∷ xs) y zero x h = inl h
  slice_get-push (z ∷ xs) y (suc p) x h = elim (slice_get-push xs y p x h) [
    | inl before ↦ inl before
    | inr last ↦ inr (ap suc last.0, last.1)
  ]

-- keys that have their own places have them with a new key at the end
pub own_places_push : {K : Type 0} (same : K → K → Bool) → ((k : K) → same k k ≡ true) → (ks : List K) (k : K)
    → HaveOwnPlaces same ks
    → place_by (same k) ks ≡ None → HaveOwnPlaces same (ks ++ k ∷ [])
own_places_push same itself ks k own absent p x at = elim (slice_get-push ks k p x at) [
  | inl before ↦ place_by-front (same x) ks (k ∷ []) p (own p x before)
  | inr last ↦ rw (← last.1, place_by-push (same k) ks k, absent, itself k) (ap Some (sym last.0))
]

-- what holds of each key holds of one among them
all_at : {K V : Type 0} (P : K → Type 0) (ds : List (K × V)) (d : K × V) (rest : List (K × V))
    → AllByRecursion P (keys_of (ds ++ d ∷ rest)) → P d.0
all_at P [] d rest h = h.0
all_at P (x ∷ ds) d rest h = all_at P ds d rest h.1

module _ {K V : Type 0} (eq : K → K → Bool) where
  -- a key without a place goes last
  pub insert_entry-absent : (ds : List (K × V)) (k : K) (v : V) → place_in eq ds k ≡ None
      → insert_entry eq ds k v ≡ ds ++ (k, v) ∷ []
  insert_entry-absent [] k v h = refl
  insert_entry-absent (d ∷ ds) k v h = elim (cases_Bool (eq k d.0)) [
    | inl here ↦ cc (rw here at h)
    | inr other ↦
        rw other (ap (λ (l : List (K × V)). d ∷ l) (insert_entry-absent ds k v
        (none_inside_map suc (place_by (eq k) (keys_of ds)) (rw other at h))))
  ]

  -- a key that distinct keys have later has no place among those before it
  pub no_place_before : IsEquivalence eq → (ds : List (K × V)) (d : K × V) (rest : List (K × V))
      → IsDistinct eq (keys_of (ds ++ d ∷ rest)) → place_in eq ds d.0 ≡ None
  unfolding IsDistinct
  no_place_before laws [] d rest h = refl
  no_place_before laws (x ∷ ds) d rest h =
      let apart : eq d.0 x.0 ≡ false = laws.symm d.0 x.0 ∙ all_at (λ k. eq x.0 k ≡ false) ds d rest h.0 in
      rw (apart, no_place_before laws ds d rest h.1) refl

-- a copy of the first entries, with the next one
pub copied_more : {K V : Type 0} (whole old new rest : List (K × V)) (e : K × V) (k : K) (v : V)
    → old ++ e ∷ rest ≡ whole
    → k ≡ e.0 → v ≡ e.1 → new ≡ old ++ (k, v) ∷ [] → new ++ rest ≡ whole
copied_more whole old new rest e k v split key value put = rw (put, key, value, append_assoc) split
