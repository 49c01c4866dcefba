-- Which of what a module defines is known to each module that imports it.
use Rattle.std.specs.Prelude.{ℕ, Bool, not, ◌&&◌, nat_lt}
use Rattle.std.specs.Ordering.{nat_cmp}
use Rattle.std.specs.FinSet as set

-- of so many that are defined all are known but these
abbrev pub is_known_to_importers : (defined : ℕ) → (unknown : set.FinSet nat_cmp) → (n : ℕ) → Bool
is_known_to_importers defined unknown n = nat_lt n defined && not (set.contains unknown n)
