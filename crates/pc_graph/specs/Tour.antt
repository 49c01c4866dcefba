-- The depth-first tour of a graph.
use Rattle.std.specs.Prelude.{Option, None, Some, List, [], ◌∷◌, ◌++◌, reverse}
use Rattle.std.specs.List.{Contains}
use Rattle.pc_graph.specs.Digraph.{Digraph}
use Rattle.pc_graph.specs.declared.dfs.DfsEvent.{DfsEvent}
use Rattle.pc_graph.specs.declared.dfs.DfsEvent.TheVariants.{Pre, AfterEdge, Post}

module _ {Node : Type 0} where
  -- the event behind the visit of a successor; a root has none
  abbrev pub back_at : Option Node → Node → List (DfsEvent Node)
  back_at None n = []
  back_at (Some from) n = AfterEdge from n ∷ []

-- The nodes are visited from the first to the last: what happens, and which nodes were met before it and after it.
-- A node that was met is not visited again. Another is met, then its successors are visited from the last to the first.
pub data Tour {Node : Type 0} (d : Digraph Node) : Option Node → List Node → List Node → List (DfsEvent Node)
    → List Node → Type 0 where
  none : (from : Option Node) (met : List Node) → Tour d from [] met [] met
  again : (from : Option Node) (n : Node) (ns met later : List Node) (events : List (DfsEvent Node))
      → Contains met n
      → Tour d from ns met events later
      → Tour d from (n ∷ ns) met (back_at from n ++ events) later
  visit : (from : Option Node) (n : Node) (ns met inside later : List Node) (within events : List (DfsEvent Node))
      → ¬ (Contains met n)
      → Tour d (Some n) (reverse (d.successors n)) (n ∷ met) within inside
      → Tour d from ns inside events later
      → Tour d from (n ∷ ns) met (Pre n ∷ within ++ Post n ∷ back_at from n ++ events) later

-- the events of the tour of a graph from its roots, the last root first, and the nodes that it meets, the last one
-- first
abbrev pub IsTour : {Node : Type 0} → Digraph Node → List Node → List (DfsEvent Node) → List Node → Type 0
IsTour d roots events met = Tour d None (reverse roots) [] events met
