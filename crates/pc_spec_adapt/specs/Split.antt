-- Splits of numbered things into runs: which are good, and which have the fewest runs.
use Rattle.std.specs.Prelude.{◌≡◌, ℕ, ◌≤◌, List, length, All, Contains, Some, slice_get}
use Rattle.std.specs.List.{flat_map, range_with_len}

module _ (Needs : ℕ → ℕ → Type 0) where
  -- none of a run needs one of the same run
  abbrev pub IsGoodRun : List ℕ → Type 0
  IsGoodRun run = (a b : ℕ) → Contains run a → Contains run b → Needs a b → ⊥

  -- the numbers below n, in order, in runs that are good
  pub record IsGoodSplit (n : ℕ) (runs : List (List ℕ)) : Type 0 where
    pub all : flat_map (λ run. run) runs ≡ range_with_len 0 n
    pub good : All IsGoodRun runs

  -- a good split of which no good split has fewer runs; so none of its runs is empty
  pub record IsFewest (n : ℕ) (runs : List (List ℕ)) : Type 0 where
    pub split : IsGoodSplit n runs
    pub fewest : (others : List (List ℕ)) → IsGoodSplit n others → length runs ≤ length others

-- the run at this place has this number
abbrev pub HasAt : List (List ℕ) → (place number : ℕ) → Type 0
HasAt runs place n = (run : List ℕ) × (slice_get runs place ≡ Some run) × Contains run n
