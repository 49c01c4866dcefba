-- One step of the traversal, on the stack of the events to come, the next one first.
use Rattle.std.specs.Prelude.{◌≡◌, Bool, true, false, ◌⊎◌, ◌↔◌, IsTrue, Option, None, Some, List, [], ◌∷◌, ◌++◌, map}
use Rattle.std.specs.Prelude.{reverse, ⊤}
use Rattle.std.specs.List.{All, Contains}
use Rattle.pc_graph.specs.Digraph.{Digraph}
use Rattle.pc_graph.specs.Tour.{Tour}
use Rattle.pc_graph.specs.declared.dfs.DfsEvent.{DfsEvent}
use Rattle.pc_graph.specs.declared.dfs.DfsEvent.TheVariants.{Pre, AfterEdge, Post}

-- the visits of these nodes, the last one first
abbrev pub visits_of : {Node : Type 0} → List Node → List (DfsEvent Node)
visits_of ns = map (λ n. Pre n) (reverse ns)

module _ {Node : Type 0} (Says : Node → Bool → Type 0) where
  -- the event is given and not skipped
  abbrev pub IsGiven : DfsEvent Node → Type 0
  IsGiven (Pre n) = Says n false
  IsGiven (AfterEdge from to) = ⊤
  IsGiven (Post n) = ⊤

  -- the event is a visit of a node that is seen
  abbrev pub IsSkipped : DfsEvent Node → Type 0
  IsSkipped (Pre n) = Says n true
  IsSkipped (AfterEdge from to) = ⊥
  IsSkipped (Post n) = ⊥

  -- what the visit of a node pushes for these successors, of which the last was pushed first
  abbrev pub Pushes : Node → List Node → List (DfsEvent Node) → Type 0
  Pushes from [] pushed = pushed ≡ []
  Pushes from (n ∷ ns) pushed = (before : List (DfsEvent Node)) × Pushes from ns before
      × ((Says n true × (pushed ≡ AfterEdge from n ∷ before))
      ⊎ (Says n false × (pushed ≡ Pre n ∷ AfterEdge from n ∷ before)))

  -- what is left on the stack where this event is given from its top
  abbrev pub Leaves : Digraph Node → DfsEvent Node → List (DfsEvent Node) → List (DfsEvent Node) → Type 0
  Leaves d (Pre n) below left = Says n false
      × (pushed : List (DfsEvent Node)) × Pushes n (reverse (d.successors n)) pushed × (left ≡ pushed ++ Post n ∷ below)
  Leaves d (AfterEdge from to) below left = left ≡ below
  Leaves d (Post n) below left = left ≡ below

  -- one step: visits of nodes that are seen are skipped, and the event behind them is given; at the end there is none
  abbrev pub Steps : Digraph Node → List (DfsEvent Node) → Option (DfsEvent Node) → List (DfsEvent Node) → Type 0
  Steps d stack None left = All IsSkipped stack × (left ≡ [])
  Steps d stack (Some event) left = (skipped below : List (DfsEvent Node))
      × All IsSkipped skipped × (stack ≡ skipped ++ event ∷ below) × Leaves d event below left

module _ {Node : Type 0} where
  -- a test says yes for exactly these nodes
  abbrev pub SaysExactly : (Node → Bool → Type 0) → List Node → Type 0
  SaysExactly Says met = (n : Node) (answer : Bool) → Says n answer → IsTrue answer ↔ Contains met n

  -- the nodes that were met once this was given
  abbrev pub met_after : List Node → Option (DfsEvent Node) → List Node
  met_after met None = met
  met_after met (Some (Pre n)) = n ∷ met
  met_after met (Some (AfterEdge from to)) = met
  met_after met (Some (Post n)) = met

  -- the events that are still to come from a stack, and the nodes that are met once all of them came
  abbrev pub Remains : Digraph Node → List Node → List (DfsEvent Node) → List (DfsEvent Node) → List Node → Type 0
  Remains d met [] events later = (events ≡ []) × (later ≡ met)
  Remains d met (Pre n ∷ stack) events later = (first rest : List (DfsEvent Node)) × (inside : List Node)
      × (events ≡ first ++ rest) × Tour d None (n ∷ []) met first inside × Remains d inside stack rest later
  Remains d met (AfterEdge from to ∷ stack) events later = (rest : List (DfsEvent Node))
      × (events ≡ AfterEdge from to ∷ rest) × Remains d met stack rest later
  Remains d met (Post n ∷ stack) events later = (rest : List (DfsEvent Node)) × (events ≡ Post n ∷ rest)
      × Remains d met stack rest later
