-- What one insertion more defines.
use Rattle.std.proofs.Common.{◌≡◌, ℕ, zero, suc, Bool, cond, List, [], ◌∷◌, ◌++◌, length, Option, Some, None, refl, sym}
use Rattle.std.proofs.Common.{ap, ◌∙◌, inl, inr, reverse}
use Rattle.pc_names.proofs.TextLemmas.{bytes_eq-refl, cond_same, cond_swap, option_or_cond}
use Rattle.std.proofs.lemmas.Bool.{cases_Bool, false≢true}
use Rattle.std.proofs.lemmas.Option.{same_Some}
use Rattle.std.proofs.lemmas.Slice.Eq.{bytes_eq-Decides}
use Rattle.std.proofs.lemmas.Grind.{reverse_onto}
use Rattle.std.proofs.lemmas.List.{reverse-append}
use Rattle.std.proofs.lemmas.List.Sums.{fold-append}
use Rattle.std.proofs.lemmas.Option.{slice_get-map}
use Rattle.std.specs.List.{slice_get, fold}
use Rattle.std.specs.Map.{keys_of, lookup}
use Rattle.std.specs.Option.{option_map, option_or, unwrap_or}
use Rattle.std.specs.Str.{bytes_eq}
use Rattle.pc_names.proofs.PlaceLemmas.{option_or-None, own_places_push, value_at_place, keys_of-append}
use Rattle.pc_names.proofs.PlaceLemmas.{keys_of-with_value}
use Rattle.pc_names.specs.Definitions.{HaveOwnPlaces, place_by}
use Rattle.pc_names.specs.Inserted.{Inserted, define, definitions_of, last_value}
use Rattle.pc_names.specs.Steps.{defined_at}

-- the place that a name has once it is defined
abbrev pub place_for : {V : Type 0} → List (List ℕ × V) → List ℕ → ℕ
place_for ds name = unwrap_or (place_by (bytes_eq name) (keys_of ds)) (length ds)

module _ {V : Type 0} where
  -- a definition more is a value at the name's place, or at the end
  pub define-at : (ds : List (List ℕ × V)) (name : List ℕ) (value : V)
      → define ds name value ≡ defined_at ds (place_by (bytes_eq name) (keys_of ds)) name value
  define-at [] name value = refl
  define-at (d ∷ ds) name value = elim (cases_Bool (bytes_eq name d.0)) [
    | inl here ↦ rw here refl
    | inr other ↦ rw (other, define-at ds name value) (further (place_by (bytes_eq name) (keys_of ds)))
  ] where
    further : (o : Option ℕ) → d ∷ defined_at ds o name value ≡ defined_at (d ∷ ds) (option_map suc o) name value
    further None = refl
    further (Some p) = refl

  -- what a look-up finds after a definition more
  pub lookup-define : (ds : List (List ℕ × V)) (name : List ℕ) (value : V) (n : List ℕ)
      → lookup (bytes_eq n) (define ds name value) ≡ cond (bytes_eq n name) (Some value) (lookup (bytes_eq n) ds)
  lookup-define [] name value n = refl
  lookup-define (d ∷ ds) name value n = elim (cases_Bool (bytes_eq name d.0)) [
    | inl here ↦
        rw (here, (bytes_eq-Decides name d.0).0 here)
        (cond_same (bytes_eq n d.0) (Some value) (Some d.1) (lookup (bytes_eq n) ds))
    | inr other ↦
        rw (other, lookup-define ds name value n) (cond_swap (bytes_eq n d.0) (bytes_eq n name) (Some d.1)
        (Some value) (lookup (bytes_eq n) ds)
        (λ a b. false≢true (sym other ∙ (bytes_eq-Decides name d.0).1
        (sym ((bytes_eq-Decides n name).0 b) ∙ (bytes_eq-Decides n d.0).0 a))))
  ]

  -- the last value after one insertion more
  pub last_value-push : (inserted : Inserted V) (name : List ℕ) (value : V) (n : List ℕ)
      → last_value (inserted ++ (name, value) ∷ []) n ≡ cond (bytes_eq n name) (Some value) (last_value inserted n)
  last_value-push inserted name value n = ap (λ (l : List (List ℕ × V)). lookup (bytes_eq n) l)
      (reverse-append inserted ((name, value) ∷ []))

  -- what is defined after one insertion more
  pub definitions_of-push : (inserted : Inserted V) (name : List ℕ) (value : V)
      → definitions_of (inserted ++ (name, value) ∷ []) ≡ define (definitions_of inserted) name value
  definitions_of-push inserted name value = fold-append (λ (ds : List (List ℕ × V)) e. define ds e.0 e.1) [] inserted
      ((name, value) ∷ [])

  -- a look-up in one list after another
  lookup-append : (test : List ℕ → Bool) (xs ys : List (List ℕ × V))
      → lookup test (xs ++ ys) ≡ option_or (lookup test xs) (lookup test ys)
  lookup-append test [] ys = refl
  lookup-append test (x ∷ xs) ys = elim (cases_Bool (test x.0)) [
    | inl here ↦ rw here refl
    | inr other ↦ rw other (lookup-append test xs ys)
  ]

  -- a look-up after insertions onto definitions
  lookup-defined_onto : (n : List ℕ) (xs ds : List (List ℕ × V))
      → lookup (bytes_eq n) (fold (λ (ds : List (List ℕ
      × V)) e. define ds e.0 e.1) ds xs) ≡ option_or (last_value xs n) (lookup (bytes_eq n) ds)
  lookup-defined_onto n [] ds = refl
  lookup-defined_onto n (x ∷ xs) ds =
      lookup-defined_onto n xs (define ds x.0 x.1)
      ∙ ap (λ (o : Option V). option_or (last_value xs n) o) (lookup-define ds x.0 x.1 n)
      ∙ option_or_cond (last_value xs n) (bytes_eq n x.0) x.1 (lookup (bytes_eq n) ds)
      ∙ ap (λ (o : Option V). option_or o (lookup (bytes_eq n) ds))
      (sym (ap (λ (l : List (List ℕ × V)). lookup (bytes_eq n) l) (reverse_onto xs x [])
      ∙ lookup-append (bytes_eq n) (reverse xs) (x ∷ [])))

  -- a name is defined as its last value
  pub lookup-definitions_of : (inserted : Inserted V) (n : List ℕ)
      → lookup (bytes_eq n) (definitions_of inserted) ≡ last_value inserted n
  lookup-definitions_of inserted n = lookup-defined_onto n inserted [] ∙ option_or-None (last_value inserted n)

  -- a place keeps its name
  pub name-define : (ds : List (List ℕ × V)) (name : List ℕ) (value : V) (p : ℕ) (n : List ℕ) (v : V)
      → slice_get ds p ≡ Some (n, v)
      → (w : V) × (slice_get (define ds name value) p ≡ Some (n, w))
  name-define [] name value p n v h = cc
  name-define (d ∷ ds) name value zero n v h =
      let first : d ≡ (n, v) = same_Some d (n, v) h in
      elim (cases_Bool (bytes_eq name d.0)) [
        | inl here ↦ (value, rw here (ap (λ (x : List ℕ × V). Some (x.0, value)) first))
        | inr other ↦ (v, rw other h)
      ]
  name-define (d ∷ ds) name value (suc p) n v h = elim (cases_Bool (bytes_eq name d.0)) [
    | inl here ↦ (v, rw here h)
    | inr other ↦ rw other (name-define ds name value p n v h)
  ]

  -- the place of the name itself
  pub place-define : (ds : List (List ℕ × V)) (name : List ℕ) (value : V)
      → slice_get (define ds name value) (place_for ds name) ≡ Some (name, value)
  place-define [] name value = refl
  place-define (d ∷ ds) name value = elim (cases_Bool (bytes_eq name d.0)) [
    | inl here ↦ rw here (ap (λ (t : List ℕ). Some (t, value)) (sym ((bytes_eq-Decides name d.0).0 here)))
    | inr other ↦ rw (other, further (place_by (bytes_eq name) (keys_of ds)) (length ds)) (place-define ds name value)
  ] where
    further : (o : Option ℕ) (n : ℕ) → unwrap_or (option_map suc o) (suc n) ≡ suc (unwrap_or o n)
    further None n = refl
    further (Some p) n = refl

  -- names keep their own places
  own-define : (ds : List (List ℕ × V)) (name : List ℕ) (value : V) → HaveOwnPlaces bytes_eq (keys_of ds)
      → HaveOwnPlaces bytes_eq (keys_of (define ds name value))
  own-define ds name value own = rw define-at (go (place_by (bytes_eq name) (keys_of ds)) refl) where
    go : (o : Option ℕ) → place_by (bytes_eq name) (keys_of ds) ≡ o
        → HaveOwnPlaces bytes_eq (keys_of (defined_at ds o name value))
    go None absent = rw keys_of-append (own_places_push bytes_eq bytes_eq-refl (keys_of ds) name own absent)
    go (Some p) at = rw keys_of-with_value own

  -- names have their own places after insertions
  own-defined_onto : (xs ds : List (List ℕ × V)) → HaveOwnPlaces bytes_eq (keys_of ds)
      → HaveOwnPlaces bytes_eq (keys_of (fold (λ (ds : List (List ℕ × V)) e. define ds e.0 e.1) ds xs))
  own-defined_onto [] ds own = own
  own-defined_onto (x ∷ xs) ds own = own-defined_onto xs (define ds x.0 x.1) (own-define ds x.0 x.1 own)

  -- each defined name has one place, and its last value there
  pub value_at : (inserted : Inserted V) (p : ℕ) (n : List ℕ) (v : V)
      → slice_get (definitions_of inserted) p ≡ Some (n, v) → last_value inserted n ≡ Some v
  value_at inserted p n v h =
      let name : slice_get (keys_of (definitions_of inserted)) p ≡ Some n =
      slice_get-map (λ (d : List ℕ × V). d.0) (definitions_of inserted) p
      ∙ ap (option_map (λ (d : List ℕ × V). d.0)) h in
      let place = own-defined_onto inserted [] (λ q k e. cc) p n name in
      sym (ap (option_map (λ (d : List ℕ × V). d.1)) (sym h)
      ∙ value_at_place (bytes_eq n) (definitions_of inserted) p place ∙ lookup-definitions_of inserted n)
