-- A list with one more item at its end.
use Rattle.std.proofs.Common.{◌≡◌, ℕ, zero, suc, ◌+◌, ◌⊎◌, inl, inr, List, [], ◌∷◌, ◌++◌, Option, None}
use Rattle.std.proofs.Common.{Some, length, take, refl, ap, ◌∙◌, arith}
use Rattle.std.specs.Prelude.{slice_get}
use Rattle.std.specs.List.{cons_option, filter_map}
use Rattle.std.proofs.lemmas.List.{length-append, take_all}
use Rattle.std.proofs.lemmas.Option.{none-some, same_Some}

module _ {A : Type 0} where
  -- an item of it was there, or is the last one
  pub pushed_cases : (xs : List A) (x : A) (n : ℕ) (y : A) → slice_get (xs ++ x ∷ []) n ≡ Some y
      → (slice_get xs n ≡ Some y) ⊎ ((n ≡ length xs) × (x ≡ y))
  pushed_cases [] x zero y h = inr (refl, same_Some x y h)
  pushed_cases [] x (suc n) y h = absurd (none-some y h)
  pushed_cases (z ∷ zs) x zero y h = inl h
  pushed_cases (z ∷ zs) x (suc n) y h =
      elim (pushed_cases zs x n y h) as (λ _. (slice_get zs n ≡ Some y) ⊎ ((suc n ≡ suc (length zs)) × (x ≡ y))) [
        | inl old ↦ inl old
        | inr new ↦ inr (ap suc new.0, new.1)
      ]

  pub length_pushed : (xs : List A) (x : A) → length (xs ++ x ∷ []) ≡ length xs + 1
  length_pushed xs x = let long = length-append xs (x ∷ []) in omega (arith, long)

  pub take_whole : (xs : List A) → take (length xs) xs ≡ xs
  take_whole xs = take_all (length xs) xs (omega arith)

  -- where something is made of an item, it stands behind what is made of the items before
  pub filter_map_at : {B : Type 0} (h : A → Option B) (xs : List A) (n : ℕ) (x : A) (y : B) → slice_get xs n ≡ Some x
      → h x ≡ Some y → slice_get (filter_map h xs) (length (filter_map h (take n xs))) ≡ Some y
  filter_map_at h [] n x y at is = absurd (none-some x at)
  filter_map_at h (z ∷ zs) zero x y at is = rw (ap h (same_Some z x at) ∙ is) refl
  filter_map_at {B} h (z ∷ zs) (suc n) x y at is = by (h z) (filter_map_at h zs n x y at is)
    where
      by : (o : Option B) → slice_get (filter_map h zs) (length (filter_map h (take n zs))) ≡ Some y
          → slice_get (cons_option o (filter_map h zs)) (length (cons_option o (filter_map h (take n zs)))) ≡ Some y
      by None rest = rest
      by (Some w) rest = rest
