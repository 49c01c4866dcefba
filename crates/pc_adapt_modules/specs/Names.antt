-- Names that are made of numbers.
use Rattle.std.specs.Prelude.{◌≡◌, ℕ, List, Some, slice_get}

-- each name is the one that is made of its place
abbrev pub AreMade : (made : ℕ → List ℕ) → List (List ℕ) → Type 0
AreMade made names = (place : ℕ) (name : List ℕ) → slice_get names place ≡ Some name → name ≡ made place
