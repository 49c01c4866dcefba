-- Pairs of the entries of two lists.
use Rattle.std.specs.Prelude.{◌≡◌, ℕ, List, length, Option, Some, slice_get, min}

-- the pairs of the first n entries
pub record AreSoFar (a b : List ℕ) (n : ℕ) (keys : List (Option (ℕ × ℕ))) : Type 0 where
  pub size : length keys ≡ n
  pub pairs : (i : ℕ) (x : Option (ℕ × ℕ)) → slice_get keys i ≡ Some x
      → (m n : ℕ) × (x ≡ Some (m, n)) × (slice_get a i ≡ Some m) × (slice_get b i ≡ Some n)

-- the pairs of the entries, as many as the shorter list has
abbrev pub ArePairs : List ℕ → List ℕ → List (Option (ℕ × ℕ)) → Type 0
ArePairs a b keys = AreSoFar a b (min (length a) (length b)) keys
