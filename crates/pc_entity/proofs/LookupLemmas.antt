-- Look-ups in a list, and in one that keeps them.
use Rattle.std.proofs.Common.{◌≡◌, ◌+◌, ◌<◌, ℕ, zero, suc, List, [], ◌∷◌, ◌++◌, length, take, drop, get_or, Some, refl}
use Rattle.std.proofs.Common.{sym, ap, ◌∙◌, arith}
use Rattle.std.specs.Prelude.{slice_get}
use Rattle.std.proofs.lemmas.List.{drop_more, take_more}
use Rattle.std.proofs.lemmas.Option.{slice_get_within}
use Rattle.pc_entity.specs.Lists.{Kept}

-- a place within a list has an item
pub found_at : {A : Type 0} (xs : List A) (n : ℕ) → n < length xs → (x : A) × (slice_get xs n ≡ Some x)
found_at [] n h = absurd (omega (arith, h))
found_at (x ∷ xs) zero h = (x, refl)
found_at (x ∷ xs) (suc n) h = found_at xs n (omega (arith, h))

-- a place within a list is within one that keeps its look-ups
pub kept_within : {A : Type 0} (xs ys : List A) → Kept xs ys → (n : ℕ) → n < length xs → n < length ys
kept_within xs ys kept n h =
    let f = found_at xs n h in
    slice_get_within ys n f.0 (kept n f.0 f.1)

module _ {A : Type 0} (xs : List A) (i : ℕ) (x : A) (within : i < length xs) (is : x ≡ get_or xs i x) where
  -- what is left is the item here and what is left after it
  pub left_here : drop i xs ≡ x ∷ drop (i + 1) xs
  left_here = drop_more xs i x within ∙ ap (λ y. y ∷ drop (i + 1) xs) (sym is)

  -- what is done is what was done before and the item here
  pub done_here : take (i + 1) xs ≡ take i xs ++ x ∷ []
  done_here = take_more xs i x within ∙ ap (λ y. take i xs ++ y ∷ []) (sym is)
