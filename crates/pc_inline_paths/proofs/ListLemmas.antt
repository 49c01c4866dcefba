-- Look-ups in lists of distinct items, and in those with one item more.
use Rattle.std.proofs.Common.{◌≡◌, ◌⊎◌, ℕ, zero, suc, List, [], ◌∷◌, ◌++◌, length, Some, Contains, sym, ap, ◌∙◌}
use Rattle.std.proofs.Common.{refl, arith, inl, inr}
use Rattle.std.specs.Prelude.{slice_get}
use Rattle.std.proofs.lemmas.List.{length-append}
use Rattle.std.proofs.lemmas.Option.{get_or_from_slice_get, none-some, same_Some, slice_get-get_or, slice_get_within}
use Rattle.pc_entity.specs.Lists.{AreDistinct}

module _ {A : Type 0} where
  -- an item of a list stands at a place
  pub place : (xs : List A) (x : A) → Contains xs x → (k : ℕ) × (slice_get xs k ≡ Some x)
  place xs x h = (h.0, slice_get-get_or xs h.0 x h.1 ∙ ap Some h.2)

  -- what stands at a place is an item of the list
  pub contains_at : (xs : List A) (k : ℕ) (x : A) → slice_get xs k ≡ Some x → Contains xs x
  contains_at xs k x at = (k, slice_get_within xs k x at, get_or_from_slice_get xs k x x at)

  -- what stands in a list with one item more stood there, or is that item
  pub push_place : (xs : List A) (y : A) (k : ℕ) (x : A) → slice_get (xs ++ y ∷ []) k ≡ Some x
      → (slice_get xs k ≡ Some x) ⊎ ((k ≡ length xs) × (y ≡ x))
  push_place [] y zero x at = inr (refl, same_Some y x at)
  push_place [] y (suc k) x at = absurd (none-some x at)
  push_place (z ∷ xs) y zero x at = inl at
  push_place (z ∷ xs) y (suc k) x at = elim (push_place xs y k x at)
      as (λ _. (slice_get (z ∷ xs) (suc k) ≡ Some x) ⊎ ((suc k ≡ length (z ∷ xs)) × (y ≡ x))) [
        | inl before ↦ inl before
        | inr last ↦ inr (omega (arith, last.0), last.1)
      ]

  -- distinct items stay distinct with one more that isn't there
  pub distinct_push : (xs : List A) (y : A) → AreDistinct xs → (Contains xs y → ⊥) → AreDistinct (xs ++ y ∷ [])
  distinct_push xs y distinct absent i j x at_i at_j = elim (push_place xs y i x at_i) [
    | inl before_i ↦ elim (push_place xs y j x at_j) [
      | inl before_j ↦ distinct i j x before_i before_j
      | inr end_j ↦ absurd (absent (contains_at xs i y (before_i ∙ ap Some (sym end_j.1))))
    ]
    | inr end_i ↦ elim (push_place xs y j x at_j) [
      | inl before_j ↦ absurd (absent (contains_at xs j y (before_j ∙ ap Some (sym end_i.1))))
      | inr end_j ↦ end_i.0 ∙ sym end_j.0
    ]
  ]

  -- a list with an item isn't empty
  pub not_empty : (xs : List A) (x : A) → [] ≡ xs ++ x ∷ [] → ⊥
  not_empty xs x h = absurd (omega (arith, ap length h, length-append xs (x ∷ [])))
