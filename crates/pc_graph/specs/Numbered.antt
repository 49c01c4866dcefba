-- The components with their numbers.
use Rattle.std.specs.Prelude.{ℕ, zero, suc, ◌+◌, List, [], ◌∷◌}
use denote.Ref.{Bor}
use Rattle.pc_graph.specs.declared.scc.Scc.{Scc}

-- each item with its number, the first one's being k
abbrev pub numbered : {X : Type 0} → ℕ → List X → List (Scc × X)
numbered k [] = []
numbered k (x ∷ xs) = (record { 0 = k }, x) ∷ numbered (k + 1) xs

-- this many numbers in order, the first one being k
abbrev pub numbers : ℕ → ℕ → List Scc
numbers k zero = []
numbers k (suc count) = record { 0 = k } ∷ numbers (k + 1) count

-- what a number and a `&T` show
abbrev pub deref_numbered : {X : Type 0} → Scc × Bor X → Scc × X
deref_numbered p = (p.0, p.1.now)
