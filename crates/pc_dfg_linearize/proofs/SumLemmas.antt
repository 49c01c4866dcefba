-- Sums over lists, and how many numbers of a list are below one.
use Rattle.std.proofs.Common.{◌≡◌, ◌<◌, ◌≤◌, ℕ, zero, suc, List, [], ◌∷◌, All, length, sum_by, refl, sym, subst, arith}
use Rattle.std.specs.List.{Contains}
use Rattle.std.proofs.lemmas.List.Elements.{All-nil, All-cons, All-head, All-tail, All-weaker}
use Rattle.std.proofs.lemmas.List.Sums.{sum_by-cons}

module _ {A : Type 0} where
  -- what is the same for each item has one sum
  pub sum_same : (f h : A → ℕ) (xs : List A) → All (λ x. f x ≡ h x) xs → sum_by f xs ≡ sum_by h xs
  sum_same f h [] all = refl
  sum_same f h (x ∷ xs) all =
      omega (
        arith,
        sum_by-cons f x xs,
        sum_by-cons h x xs,
        All-head (λ x. f x ≡ h x) x xs all,
        sum_same f h xs (All-tail (λ x. f x ≡ h x) x xs all),
      )

  module _ (f h : A → ℕ) (each : (x : A) → f x ≤ h x) where
    -- what is no more for each item has no more of a sum, and less where it is less for one
    pub sum_more : (xs : List A) → sum_by f xs ≤ sum_by h xs
    sum_more [] = omega arith
    sum_more (x ∷ xs) = omega (arith, sum_by-cons f x xs, sum_by-cons h x xs, each x, sum_more xs)

    pub sum_less : (xs : List A) (y : A) → Contains xs y → f y < h y → sum_by f xs < sum_by h xs
    sum_less [] y (k, below, is) less = absurd (omega (arith, below))
    sum_less (x ∷ xs) y (zero, below, is) less =
        let here : f x < h x = subst (λ z. f z < h z) (sym is) less in
        omega (arith, sum_by-cons f x xs, sum_by-cons h x xs, here, sum_more xs)
    sum_less (x ∷ xs) y (suc k, below, is) less =
        let rest = sum_less xs y (k, omega (arith, below), is) less in
        omega (arith, sum_by-cons f x xs, sum_by-cons h x xs, each x, rest)

  -- a sum is no less than what it has for an item
  pub sum_above : (f : A → ℕ) (xs : List A) → All (λ x. f x ≤ sum_by f xs) xs
  sum_above f [] = All-nil (λ x. f x ≤ sum_by f [])
  sum_above f (x ∷ xs) =
      let whole = sum_by-cons f x xs in
      let more : (y : A) → f y ≤ sum_by f xs → f y ≤ sum_by f (x ∷ xs) = λ y h. omega (arith, whole, h) in
      All-cons (λ y. f y ≤ sum_by f (x ∷ xs)) x xs (omega (arith, whole))
      (All-weaker (λ y. f y ≤ sum_by f xs) (λ y. f y ≤ sum_by f (x ∷ xs)) more xs (sum_above f xs))

  -- a sum of ones is no more than there are items
  pub sum_ones : (f : A → ℕ) → ((x : A) → f x ≤ 1) → (xs : List A) → sum_by f xs ≤ length xs
  sum_ones f each [] = omega arith
  sum_ones f each (x ∷ xs) = omega (arith, sum_by-cons f x xs, each x, sum_ones f each xs)

-- 1 for a number below another one, else 0
pub is_below : ℕ → ℕ → ℕ
is_below m zero = 0
is_below zero (suc n) = 1
is_below (suc m) (suc n) = is_below m n

pub below_one : (m n : ℕ) → is_below m n ≤ 1
unfolding is_below
below_one m zero = omega arith
below_one zero (suc n) = omega arith
below_one (suc m) (suc n) = below_one m n

pub below_more : (m n k : ℕ) → n ≤ k → is_below m n ≤ is_below m k
unfolding is_below
below_more m zero k more = omega arith
below_more m (suc n) zero more = absurd (omega (arith, more))
below_more zero (suc n) (suc k) more = omega arith
below_more (suc m) (suc n) (suc k) more = below_more m n k (omega (arith, more))

pub below_itself : (m : ℕ) → is_below m m ≡ 0
unfolding is_below
below_itself zero = refl
below_itself (suc m) = below_itself m

pub below_other : (m n : ℕ) → m < n → is_below m n ≡ 1
unfolding is_below
below_other m zero less = absurd (omega (arith, less))
below_other zero (suc n) less = refl
below_other (suc m) (suc n) less = below_other m n (omega (arith, less))
