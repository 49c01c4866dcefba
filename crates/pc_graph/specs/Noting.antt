-- How the evaporation is found: the number of each node's class, and one edge after the other noted in the lists.
use Rattle.std.specs.Prelude.{◌≡◌, ℕ, ◌==◌, ◌||◌, Bool, false, Some, List, [], ◌∷◌, ◌++◌, map, slice_get, slice_set}
use Rattle.std.specs.Prelude.{if◌then◌else◌}
use Rattle.std.specs.List.{Contains}
use Rattle.pc_entity.specs.SecondaryMap.{Defaulted, value_at}
use Rattle.pc_graph.specs.Classes.{flat}
use Rattle.pc_graph.specs.Digraph.{Digraph}
use Rattle.pc_graph.specs.Listed.{row_at}
use Rattle.pc_graph.specs.declared.scc.Scc.{Scc}

-- the number of a node's class, as it is noted
abbrev pub number_in : {Node : Type 0} → (Node → ℕ) → Defaulted Scc → Node → ℕ
number_in number numbers = λ n. (value_at numbers (number n)).0

module _ {Node : Type 0} (number_of : Node → ℕ) where
  -- each node of a class has the number of the class
  abbrev pub AreNumbers : List (List Node) → Type 0
  AreNumbers classes = (i : ℕ) (class : List Node) (n : Node) → slice_get classes i ≡ Some class → Contains class n
      → number_of n ≡ i

  -- the numbers of the classes of all successors of some nodes
  abbrev pub targets : Digraph Node → List Node → List ℕ
  targets d nodes = flat (map (λ n. map number_of (d.successors n)) nodes)

-- whether the last of the numbers is this one
abbrev pub last_is : List Scc → ℕ → Bool
last_is [] n = false
last_is (x ∷ []) n = x.0 == n
last_is (x ∷ y ∷ xs) n = last_is (y ∷ xs) n

-- the lists once an edge between classes is noted: a class is not noted with itself, nor twice in a row
abbrev pub noted : ℕ → List (List Scc) → ℕ → List (List Scc)
noted from rows into =
    if from == into || last_is (row_at rows into) from
    then rows else slice_set rows into (row_at rows into ++ record { 0 = from } ∷ [])

-- the lists once edges from one class into others are noted
abbrev pub noted_all : ℕ → List (List Scc) → List ℕ → List (List Scc)
noted_all from rows [] = rows
noted_all from rows (into ∷ more) = noted_all from (noted from rows into) more
