-- A list of named values in which each name stands once.
use Rattle.std.specs.Prelude.{ℕ, List, [], ◌∷◌, ◌++◌, is_some, if◌then◌else◌}
use Rattle.pc_entity.specs.Lists.{value_of}

-- the entries with one more at the end, unless its name has a value
abbrev pub with_first : {V : Type 0} → List (List ℕ × V) → List ℕ × V → List (List ℕ × V)
with_first es e = if is_some (value_of e.0 es) then es else es ++ e ∷ []
