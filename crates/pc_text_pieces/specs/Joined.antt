-- Lists of texts that are written piece by piece.
use Rattle.std.specs.Prelude.{ℕ, Bool, false, List, [], ◌∷◌, ◌++◌, codes, if◌then◌else◌}

-- what stands before an element of a list
abbrev pub separator : (is_first : Bool) → List ℕ
separator is_first = if is_first then [] else codes ", "

-- a separator before each text, save before the first of all
abbrev pub joined : (are_first : Bool) → List (List ℕ) → List ℕ
joined are_first [] = []
joined are_first (x ∷ xs) = separator are_first ++ x ++ joined false xs
