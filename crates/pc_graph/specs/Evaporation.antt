-- The evaporation of a graph: from which of its classes an edge leads into each of them.
use Rattle.std.specs.Prelude.{◌≡◌, ◌≢◌, ◌↔◌, ℕ, Some, List, length, map, slice_get}
use Rattle.std.specs.List.{Contains}
use Rattle.std.specs.List.Sorted.{IsStrictlyIncreasing}
use Rattle.pc_graph.specs.Digraph.{Digraph}
use Rattle.pc_graph.specs.declared.scc.Scc.{Scc}

module _ {Node : Type 0} where
  -- each edge from one of the nodes leads to one of them
  abbrev pub IsClosed : Digraph Node → List Node → Type 0
  IsClosed d nodes = (a b : Node) → Contains nodes a → Contains (d.successors a) b → Contains nodes b

  -- an edge leads from the class of number j into that of number i
  abbrev pub LeadsInto : Digraph Node → List (List Node) → ℕ → ℕ → Type 0
  LeadsInto d classes j i = (from into : List Node) × (a b : Node) × (slice_get classes j ≡ Some from)
      × (slice_get classes i ≡ Some into)
      × Contains from a × Contains (d.successors a) b × Contains into b

-- the lists are, for each class, the numbers of the other classes from which an edge leads into it
pub record IsEvaporation {Node : Type 0} (d : Digraph Node) (classes : List (List Node))
    (lists : List (List Scc)) : Type 0 where
  -- there is one list for each class
  pub size : length lists ≡ length classes
  -- these numbers stand in it, and no other
  pub exact : (i : ℕ) (list : List Scc) (j : Scc) → slice_get lists i ≡ Some list → Contains list j
      ↔ ((j.0 ≢ i) × LeadsInto d classes j.0 i)
  -- ascending, each once
  pub ascending : (i : ℕ) (list : List Scc) → slice_get lists i ≡ Some list → IsStrictlyIncreasing (map (λ j. j.0) list)
