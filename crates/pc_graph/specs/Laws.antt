-- What is true of every tour, and of every run of the traversal.
use Rattle.std.specs.Prelude.{◌≡◌, ◌↔◌, Bool, IsTrue, None, Some, List, [], ◌∷◌, reverse}
use Rattle.std.specs.List.{Contains}
use Rattle.pc_entity.specs.Lists.{AreDistinct}
use Rattle.pc_graph.specs.Digraph.{Digraph, IsReachable}
use Rattle.pc_graph.specs.Steps.{Steps, met_after, visits_of}
use Rattle.pc_graph.specs.Tour.{IsTour}
use Rattle.pc_graph.specs.declared.dfs.DfsEvent.{DfsEvent}
use Rattle.pc_graph.specs.declared.dfs.DfsEvent.TheVariants.{Pre, AfterEdge, Post}

module _ {Node : Type 0} where
  -- the nodes that are met, in their order
  abbrev pub met_in : List (DfsEvent Node) → List Node
  met_in [] = []
  met_in (Pre n ∷ events) = n ∷ met_in events
  met_in (AfterEdge from to ∷ events) = met_in events
  met_in (Post n ∷ events) = met_in events

  -- the answer to whether a node is among these
  abbrev pub TellsWhetherMet : List Node → Node → Bool → Type 0
  TellsWhetherMet met n answer = IsTrue answer ↔ Contains met n

  -- steps that give these events and then none, each told which nodes were met before
  abbrev pub IsRun : Digraph Node → List Node → List (DfsEvent Node) → List (DfsEvent Node) → Type 0
  IsRun d met stack [] = (left : List (DfsEvent Node)) × Steps (TellsWhetherMet met) d stack None left
  IsRun d met stack (event ∷ events) = (left : List (DfsEvent Node))
      × Steps (TellsWhetherMet met) d stack (Some event) left × IsRun d (met_after met (Some event)) left events

module _ (Node : Type 0) where
  -- the events of a run from some roots are those of their tour
  abbrev pub RunsAreTours : Type 0
  RunsAreTours = (d : Digraph Node) (roots : List Node) (events : List (DfsEvent Node))
      → IsRun d [] (visits_of roots) events → IsTour d roots events (reverse (met_in events))

  -- the nodes that a tour meets are exactly those that can be reached from its roots
  abbrev pub MeetsTheReachable : Type 0
  MeetsTheReachable = (d : Digraph Node) (roots : List Node) (events : List (DfsEvent Node)) (met : List Node)
      → IsTour d roots events met → (n : Node) → Contains met n ↔ IsReachable d roots n

  -- they are the nodes of its events, the last one first
  abbrev pub MeetsByItsEvents : Type 0
  MeetsByItsEvents = (d : Digraph Node) (roots : List Node) (events : List (DfsEvent Node)) (met : List Node)
      → IsTour d roots events met → met ≡ reverse (met_in events)

  -- none is met twice
  abbrev pub MeetsOnce : Type 0
  MeetsOnce = (d : Digraph Node) (roots : List Node) (events : List (DfsEvent Node)) (met : List Node)
      → IsTour d roots events met → AreDistinct met

  -- there are no two tours from the same roots
  abbrev pub IsTheOnlyTour : Type 0
  IsTheOnlyTour = (d : Digraph Node) (roots : List Node) (events others : List (DfsEvent Node)) (met also : List Node)
      → IsTour d roots events met → IsTour d roots others also → events ≡ others
