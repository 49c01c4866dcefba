-- The components with their numbers.
use Rattle.std.proofs.Common.{◌≡◌, ℕ, zero, suc, ◌+◌, List, [], ◌∷◌, length, refl, ap}
use Rattle.pc_graph.specs.Numbered.{numbered, numbers}

-- as many as items
pub length-numbered : {X : Type 0} (k : ℕ) (xs : List X) → length (numbered k xs) ≡ length xs
length-numbered k [] = refl
length-numbered k (x ∷ xs) = ap suc (length-numbered (k + 1) xs)

-- there are as many numbers as were asked for
pub length-numbers : (k count : ℕ) → length (numbers k count) ≡ count
length-numbers k zero = refl
length-numbers k (suc count) = ap suc (length-numbers (k + 1) count)
