-- Values with their numbers.
use Rattle.std.specs.Prelude.{ℕ, ◌+◌, List, [], ◌∷◌}
use denote.Ref.{Bor}

-- each value with its number, of which the first is n
abbrev pub numbered : {K V : Type 0} → (key : ℕ → K) (n : ℕ) → List V → List (K × V)
numbered key n [] = []
numbered key n (v ∷ vs) = (key n, v) ∷ numbered key (n + 1) vs

-- a number with what a reference points to
abbrev pub second_now : {K V : Type 0} → K × Bor V → K × V
second_now p = (p.0, p.1.now)
