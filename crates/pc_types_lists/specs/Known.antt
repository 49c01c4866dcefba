-- The resources that are known by their table numbers.
use Rattle.std.specs.Prelude.{ℕ, List, [], ◌∷◌, Option, None, Some, if◌then◌else◌, ◌==◌}
use Rattle.pc_numbers.specs.declared.runtime.ResourceIndex.{ResourceIndex}

-- the resource of a table number
abbrev pub resource_of : List (ℕ × ResourceIndex) → ℕ → Option ResourceIndex
resource_of [] n = None
resource_of (k ∷ ks) n = if n == k.0 then Some k.1 else resource_of ks n
