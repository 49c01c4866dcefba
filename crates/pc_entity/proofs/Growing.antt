-- Lists that grow at the end, and lists that are written to.
use Rattle.std.proofs.Common.{◌≡◌, ◌≢◌, ℕ, ◌<◌, List, [], ◌∷◌, ◌++◌, length, zero, suc, Some, refl, ap, arith, take}
use Rattle.std.proofs.Common.{◌+◌, add-one}
use Rattle.std.specs.Prelude.{slice_get, slice_set}
use Rattle.std.proofs.lemmas.Option.{none-some, same_Some}
use Rattle.pc_entity.specs.Lists.{Kept}

module _ {A : Type 0} where
  -- a look-up that answered answers the same once items were appended
  pub slice_get-append : (xs ys : List A) (i : ℕ) (x : A) → slice_get xs i ≡ Some x → slice_get (xs ++ ys) i ≡ Some x
  slice_get-append [] ys i x h = absurd (none-some x h)
  slice_get-append (y ∷ xs) ys zero x h = h
  slice_get-append (y ∷ xs) ys (suc i) x h = slice_get-append xs ys i x h

  -- the first of the items that were appended stands at the old length
  pub slice_get-append_seam : (xs : List A) (y : A) (ys : List A) → slice_get (xs ++ y ∷ ys) (length xs) ≡ Some y
  slice_get-append_seam [] y ys = refl
  slice_get-append_seam (x ∷ xs) y ys = slice_get-append_seam xs y ys

  -- the items in front of the next place are those in front of this one, and the item here
  take-step : (xs : List A) (i : ℕ) (x : A) → slice_get xs i ≡ Some x → take (suc i) xs ≡ take i xs ++ x ∷ []
  take-step [] i x h = absurd (none-some x h)
  take-step (y ∷ xs) zero x h = ap (λ z. z ∷ []) (same_Some y x h)
  take-step (y ∷ xs) (suc i) x h = ap (λ l. y ∷ l) (take-step xs i x h)

  -- the same, as a loop counts
  pub take-next : (xs : List A) (i : ℕ) (x : A) → slice_get xs i ≡ Some x → take (i + 1) xs ≡ take i xs ++ x ∷ []
  take-next xs i x h = rw add-one (take-step xs i x h)

  -- a look-up at a place that is held finds what was written there
  pub slice_get-set_same : (xs : List A) (i : ℕ) (y : A) → i < length xs → slice_get (slice_set xs i y) i ≡ Some y
  slice_get-set_same [] i y h = absurd (omega (arith, h))
  slice_get-set_same (x ∷ xs) zero y h = refl
  slice_get-set_same (x ∷ xs) (suc i) y h = slice_get-set_same xs i y (omega (arith, h))

  -- a look-up at another place finds what it found before
  pub slice_get-set_other : (xs : List A) (i j : ℕ) (y : A) → j ≢ i → slice_get (slice_set xs i y) j ≡ slice_get xs j
  slice_get-set_other [] i j y h = refl
  slice_get-set_other (x ∷ xs) zero zero y h = absurd (h refl)
  slice_get-set_other (x ∷ xs) zero (suc j) y h = refl
  slice_get-set_other (x ∷ xs) (suc i) zero y h = refl
  slice_get-set_other (x ∷ xs) (suc i) (suc j) y h = slice_get-set_other xs i j y (λ e. h (ap suc e))

  -- a list keeps its own look-ups
  pub kept_refl : (xs : List A) → Kept xs xs
  kept_refl xs i x h = h

  -- a list with more at its end keeps the look-ups
  pub append_kept : (xs ys : List A) → Kept xs (xs ++ ys)
  append_kept xs ys i x h = slice_get-append xs ys i x h

  -- what keeps what keeps the look-ups keeps them
  pub kept_trans : (xs ys zs : List A) → Kept xs ys → Kept ys zs → Kept xs zs
  kept_trans xs ys zs first second i x h = second i x (first i x h)
