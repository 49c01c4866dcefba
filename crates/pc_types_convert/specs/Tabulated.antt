-- A list of the values that the numbers up to a bound have.
use Rattle.std.specs.Prelude.{ℕ, ◌+◌, zero, suc, List, [], ◌∷◌}

-- the values of so many numbers from one on, in order
abbrev pub tabulated : {A : Type 0} → (ℕ → A) → (first : ℕ) → (count : ℕ) → List A
tabulated f i zero = []
tabulated f i (suc n) = f i ∷ tabulated f (i + 1) n
