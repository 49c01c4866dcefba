-- The least places of keys, and the first places while a list of keys is gone through.
use Rattle.std.specs.Prelude.{◌≡◌, ◌≤◌, ◌<◌, ◌+◌, ℕ, List, length, Option, Some, slice_get}
use Rattle.pc_partition.specs.Least.{Share}

-- a list has, for each of the first n numbers, the least number that belongs to it
pub record TellsLeast (share : ℕ → ℕ → Type 0) (n : ℕ) (least : List ℕ) : Type 0 where
  pub size : length least ≡ n
  pub shares : (i m : ℕ) → slice_get least i ≡ Some m → share i m
  pub first : (i j m : ℕ) → slice_get least i ≡ Some m → share i j → m ≤ j

-- the first places of keys, so far: the keys that stand in the first n places, each with the first of them
pub record AreFirsts {K : Type 0} (keys : List (Option K)) (n : ℕ) (found : K → Option ℕ) : Type 0 where
  pub there : (k : K) (m : ℕ) → found k ≡ Some m → (m < n) × (slice_get keys m ≡ Some (Some k))
  pub least : (k : K) (m j : ℕ) → found k ≡ Some m → slice_get keys j ≡ Some (Some k) → m ≤ j
  pub all : (j : ℕ) (k : K) → j < n → slice_get keys j ≡ Some (Some k) → (m : ℕ) × (found k ≡ Some m)

-- m is the least number that belongs to n, and n is among the places that were gone through
pub record TellsNext {K : Type 0} (keys : List (Option K)) (n : ℕ) (found : K → Option ℕ) (m : ℕ) : Type 0 where
  pub firsts : AreFirsts keys (n + 1) found
  pub shares : Share keys n m
  pub first : (j : ℕ) → Share keys n j → m ≤ j
