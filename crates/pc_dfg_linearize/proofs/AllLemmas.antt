-- Facts of each item of a list.
use Rattle.std.proofs.Common.{◌≡◌, ℕ, zero, suc, List, [], ◌∷◌, ◌++◌, All, Some, subst, arith}
use Rattle.std.specs.Prelude.{slice_get}
use Rattle.std.specs.List.{flat_map}
use Rattle.std.proofs.lemmas.List.Concat.{flat_map-cons}
use Rattle.std.proofs.lemmas.List.Elements.{All-nil}
use Rattle.std.proofs.lemmas.Option.{none-some, same_Some, slice_get_within, get_or_from_slice_get}

module _ {A : Type 0} (P : A → Type 0) where
  -- of one item and others
  pub all_cons : (x : A) (xs : List A) → P x → All P xs → All P (x ∷ xs)
  all_cons x xs p all zero d below = p
  all_cons x xs p all (suc k) d below = all k d (omega (arith, below))

  pub all_one : (x : A) → P x → All P (x ∷ [])
  all_one x p = all_cons x [] p (All-nil P)

  -- of the first item, and of the others
  pub all_first : (x : A) (xs : List A) → All P (x ∷ xs) → P x
  all_first x xs all = all 0 x (omega arith)

  pub all_rest : (x : A) (xs : List A) → All P (x ∷ xs) → All P xs
  all_rest x xs all k d below = all (suc k) d (omega (arith, below))

  -- of those in front, and of those behind
  pub all_front : (xs ys : List A) → All P (xs ++ ys) → All P xs
  all_front [] ys all = All-nil P
  all_front (x ∷ xs) ys all =
      all_cons x xs (all_first x (xs ++ ys) all) (all_front xs ys (all_rest x (xs ++ ys) all))

  pub all_back : (xs ys : List A) → All P (xs ++ ys) → All P ys
  all_back [] ys all = all
  all_back (x ∷ xs) ys all = all_back xs ys (all_rest x (xs ++ ys) all)

  -- of the item at a place
  pub all_at : (xs : List A) (i : ℕ) (x : A) → All P xs → slice_get xs i ≡ Some x → P x
  all_at xs i x all at = subst P (get_or_from_slice_get xs i x x at) (all i x (slice_get_within xs i x at))

  -- of what a function makes of the item at a place
  pub all_in : {B : Type 0} (f : B → List A) (xs : List B) (i : ℕ) (x : B) → All P (flat_map f xs)
      → slice_get xs i ≡ Some x → All P (f x)
  all_in f [] i x all at = absurd (none-some x at)
  all_in f (y ∷ ys) zero x all at =
      subst (λ z. All P (f z)) (same_Some y x at)
      (all_front (f y) (flat_map f ys) (subst (All P) (flat_map-cons f y ys) all))
  all_in f (y ∷ ys) (suc i) x all at =
      all_in f ys i x (all_back (f y) (flat_map f ys) (subst (All P) (flat_map-cons f y ys) all)) at
