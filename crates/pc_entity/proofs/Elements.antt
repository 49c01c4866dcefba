-- What a test of each item says of one item.
use Rattle.std.proofs.Common.{◌≡◌, ℕ, ◌⊎◌, Bool, true, false, ◌&&◌, List, [], ◌∷◌, ◌++◌, zero, suc, Some, refl, sym, ap}
use Rattle.std.proofs.Common.{◌∙◌, true≢false, inl, inr}
use Rattle.std.specs.Prelude.{slice_get}
use Rattle.std.specs.List.{list_all}
use Rattle.std.proofs.lemmas.Option.{none-some, same_Some}

-- a test passes or fails
pub bool_cases : (b : Bool) → (b ≡ true) ⊎ (b ≡ false)
bool_cases true = inl refl
bool_cases false = inr refl

-- both parts of a conjunction that holds
pub and_true : (a b : Bool) → (a && b) ≡ true → (a ≡ true) × (b ≡ true)
and_true true b h = (refl, h)
and_true false b h = absurd (true≢false (sym h))

-- a conjunction of two tests that hold
pub true_and : (a b : Bool) → a ≡ true → b ≡ true → (a && b) ≡ true
true_and a b p q = rw (p, q) refl

module _ {A : Type 0} (p : A → Bool) where
  -- a test of all items holds of the item at a place
  pub all_at : (xs : List A) (i : ℕ) (x : A) → list_all p xs ≡ true → slice_get xs i ≡ Some x → p x ≡ true
  all_at [] i x h at = absurd (none-some x at)
  all_at (y ∷ ys) zero x h at = ap p (sym (same_Some y x at)) ∙ (and_true (p y) (list_all p ys) h).0
  all_at (y ∷ ys) (suc i) x h at = all_at ys i x (and_true (p y) (list_all p ys) h).1 at

  -- the items in front pass, where all do
  pub list_all-front : (xs ys : List A) → list_all p (xs ++ ys) ≡ true → list_all p xs ≡ true
  list_all-front [] ys h = refl
  list_all-front (x ∷ xs) ys h =
      let both = and_true (p x) (list_all p (xs ++ ys)) h in
      true_and (p x) (list_all p xs) both.0 (list_all-front xs ys both.1)

  -- the items behind pass, where all do
  pub list_all-back : (xs ys : List A) → list_all p (xs ++ ys) ≡ true → list_all p ys ≡ true
  list_all-back [] ys h = h
  list_all-back (x ∷ xs) ys h = list_all-back xs ys (and_true (p x) (list_all p (xs ++ ys)) h).1

  -- all pass, where those in front and those behind do
  pub list_all-append : (xs ys : List A) → list_all p xs ≡ true → list_all p ys ≡ true
      → list_all p (xs ++ ys) ≡ true
  list_all-append [] ys h k = k
  list_all-append (x ∷ xs) ys h k =
      let both = and_true (p x) (list_all p xs) h in
      true_and (p x) (list_all p (xs ++ ys)) both.0 (list_all-append xs ys both.1 k)
