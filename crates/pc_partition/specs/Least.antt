-- Which numbers share a class, and lists of the least number of each class.
use Rattle.std.specs.Prelude.{◌≡◌, ◌≤◌, ◌<◌, ◌⊎◌, ℕ, List, length, Option, Some, slice_get}

-- two places of a list share a class where they are one place, or have one key
abbrev pub Share : {K : Type 0} → List (Option K) → ℕ → ℕ → Type 0
Share {K} keys i j =
    (i ≡ j) ⊎ ((k : K) × (slice_get keys i ≡ Some (Some k)) × (slice_get keys j ≡ Some (Some k)))

-- each entry is at most its place, and is the entry at its own place too; the places have numbers of 32 bits
pub record AreLeast (least : List ℕ) : Type 0 where
  pub few : length least < 4294967295
  pub below : (i m : ℕ) → slice_get least i ≡ Some m → m ≤ i
  pub own : (i m : ℕ) → slice_get least i ≡ Some m → slice_get least m ≡ Some m
