-- Directed graphs: what a graph shows, and what can be reached in it.
use Rattle.std.specs.Prelude.{◌≡◌, Bool, List}
use Rattle.std.specs.List.{Contains, filter}
use Rattle.std.specs.Fn.{FnReturnsAt}
use denote.Ref.{Bor}
use denote.Param.Members.{Shared}

-- the listed nodes, and the successors of every node, each in its order
pub record Digraph (Node : Type 0) : Type 0 where
  pub nodes : List Node
  pub successors : Node → List Node

module _ {Node : Type 0} where
  -- each answer of a predicate is what a test says of the node
  abbrev pub AnswersBy : {F : Type 0} → Shared F (Bor Node × Unit {0}) Bool → F → (Node → Bool) → Type 0
  AnswersBy calls predicate test = (n : Node) (answer : Bool) → FnReturnsAt calls predicate n answer → answer ≡ test n

  -- the graph without the nodes of which a test says no
  abbrev pub filtered : (Node → Bool) → Digraph Node → Digraph Node
  filtered test d = record { nodes = filter test d.nodes; successors = λ n. filter test (d.successors n) }

-- a node can be reached from another, along some edges or none
pub data Reaches {Node : Type 0} (d : Digraph Node) (from : Node) : Node → Type 0 where
  here : Reaches d from from
  further : (mid to : Node) → Reaches d from mid → Contains (d.successors mid) to → Reaches d from to

-- a node can be reached from one of the roots
abbrev pub IsReachable : {Node : Type 0} → Digraph Node → List Node → Node → Type 0
IsReachable {Node} d roots n = (root : Node) × Contains roots root × Reaches d root n
