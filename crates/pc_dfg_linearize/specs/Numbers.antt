-- The numbers that the entries of a list have in a plan, so far.
use Rattle.std.specs.Prelude.{ℕ, List, Option, Some, slice_get, slice_set, option_and_then, unwrap_or}

-- the number of an entry, if it has one
abbrev pub number_at : List (Option ℕ) → ℕ → Option ℕ
number_at numbers k = option_and_then (λ (n : Option ℕ). n) (slice_get numbers k)

-- the number of an entry that has one
abbrev pub numbered : List (Option ℕ) → ℕ → ℕ
numbered numbers k = unwrap_or (number_at numbers k) 0

-- the numbers with that of an entry
abbrev pub with_number : List (Option ℕ) → (entry number : ℕ) → List (Option ℕ)
with_number numbers k n = slice_set numbers k (Some n)
