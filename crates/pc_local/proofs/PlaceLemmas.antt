-- Values by place.
use Rattle.std.proofs.Common.{◌≡◌, ◌⊎◌, ◌≢◌, ℕ, zero, suc, ◌<◌, ◌≤◌, List, [], ◌∷◌, ◌++◌, length, Some, refl, ap, inl}
use Rattle.std.proofs.Common.{inr, arith}
use Rattle.std.specs.Prelude.{slice_get, slice_set}
use Rattle.std.proofs.lemmas.Option.{none-some, same_Some}
use Rattle.pc_local.specs.Captured.{at_or}

-- a number is below another, equal to it, or above it
pub compared : (j n : ℕ) → (j < n) ⊎ ((j ≡ n) ⊎ (n < j))
compared zero zero = inr (inl refl)
compared zero (suc n) = inl (omega arith)
compared (suc j) zero = inr (inr (omega arith))
compared (suc j) (suc n) = elim (compared j n) as (λ _. (suc j < suc n) ⊎ ((suc j ≡ suc n) ⊎ (suc n < suc j))) [
  | inl below ↦ inl (omega (arith, below))
  | inr other ↦ elim other as (λ _. (suc j < suc n) ⊎ ((suc j ≡ suc n) ⊎ (suc n < suc j))) [
    | inl same ↦ inr (inl (ap suc same))
    | inr above ↦ inr (inr (omega (arith, above)))
  ]
]

-- two numbers are equal or not
pub same_or_not : (j n : ℕ) → (j ≡ n) ⊎ (j ≢ n)
same_or_not zero zero = inl refl
same_or_not zero (suc n) = inr (λ e. omega (arith, e))
same_or_not (suc j) zero = inr (λ e. omega (arith, e))
same_or_not (suc j) (suc n) = elim (same_or_not j n) as (λ _. (suc j ≡ suc n) ⊎ (suc j ≢ suc n)) [
  | inl same ↦ inl (ap suc same)
  | inr other ↦ inr (λ e. other (omega (arith, e)))
]

module _ {A : Type 0} (d : A) where
  -- what was written is read
  pub at_set_same : (xs : List A) (i : ℕ) (y : A) → i < length xs → at_or d (slice_set xs i y) i ≡ y
  at_set_same [] i y h = absurd (omega (arith, h))
  at_set_same (x ∷ xs) zero y h = refl
  at_set_same (x ∷ xs) (suc i) y h = at_set_same xs i y (omega (arith, h))

  -- another place keeps its value
  pub at_set_other : (xs : List A) (i j : ℕ) (y : A) → j ≢ i → at_or d (slice_set xs i y) j ≡ at_or d xs j
  at_set_other [] i j y h = refl
  at_set_other (x ∷ xs) zero zero y h = absurd (h refl)
  at_set_other (x ∷ xs) zero (suc j) y h = refl
  at_set_other (x ∷ xs) (suc i) zero y h = refl
  at_set_other (x ∷ xs) (suc i) (suc j) y h = at_set_other xs i j y (λ e. h (ap suc e))

  -- a value that was appended stands at the old length
  pub at_push : (xs : List A) (y : A) → at_or d (xs ++ y ∷ []) (length xs) ≡ y
  at_push [] y = refl
  at_push (x ∷ xs) y = at_push xs y

  -- values before it are as they were
  pub at_before : (xs ys : List A) (j : ℕ) → j < length xs → at_or d (xs ++ ys) j ≡ at_or d xs j
  at_before [] ys j h = absurd (omega (arith, h))
  at_before (x ∷ xs) ys zero h = refl
  at_before (x ∷ xs) ys (suc j) h = at_before xs ys j (omega (arith, h))

  -- there is nothing past the end
  pub at_past : (xs : List A) (j : ℕ) → length xs ≤ j → at_or d xs j ≡ d
  at_past [] j h = refl
  at_past (x ∷ xs) zero h = absurd (omega (arith, h))
  at_past (x ∷ xs) (suc j) h = at_past xs j (omega (arith, h))

  -- one more of what is past the end changes nothing
  pub at_more : (xs : List A) (j : ℕ) → at_or d (xs ++ d ∷ []) j ≡ at_or d xs j
  at_more [] zero = refl
  at_more [] (suc j) = refl
  at_more (x ∷ xs) zero = refl
  at_more (x ∷ xs) (suc j) = at_more xs j

  -- a value that is found is the one
  pub at_found : (xs : List A) (j : ℕ) (x : A) → slice_get xs j ≡ Some x → at_or d xs j ≡ x
  at_found [] j x h = absurd (none-some x h)
  at_found (y ∷ xs) zero x h = same_Some y x h
  at_found (y ∷ xs) (suc j) x h = at_found xs j x h

-- a value that is found in a list with one more was found before, or is that one
pub found_in_push : {A : Type 0} (xs : List A) (y : A) (k : ℕ) (x : A) → slice_get (xs ++ y ∷ []) k ≡ Some x
    → (slice_get xs k ≡ Some x) ⊎ (y ≡ x)
found_in_push [] y zero x h = inr (same_Some y x h)
found_in_push [] y (suc k) x h = absurd (none-some x h)
found_in_push (z ∷ xs) y zero x h = inl h
found_in_push (z ∷ xs) y (suc k) x h = found_in_push xs y k x h
