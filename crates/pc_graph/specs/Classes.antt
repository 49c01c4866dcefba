-- The strong components of a graph: the classes of nodes that can be reached from each other.
use Rattle.std.specs.Prelude.{◌≡◌, ◌↔◌, ℕ, zero, suc, ◌+◌, ◌≤◌, Some, List, [], ◌∷◌, ◌++◌, length, slice_get}
use Rattle.std.specs.Prelude.{slice_index, slice_range, ⊤}
use Rattle.std.specs.List.{Contains}
use Rattle.pc_entity.specs.Lists.{AreDistinct}
use Rattle.pc_graph.specs.Digraph.{Digraph, IsReachable, Reaches}
use Rattle.pc_graph.specs.Tour.{IsTour}
use Rattle.pc_graph.specs.declared.dfs.DfsEvent.{DfsEvent}
use Rattle.pc_graph.specs.declared.dfs.DfsEvent.TheVariants.{Pre, AfterEdge, Post}

-- the places ascend, from this one to the last
abbrev pub Ascend : ℕ → List ℕ → ℕ → Type 0
Ascend start [] last = start ≤ last
Ascend start (end ∷ ends) last = (start ≤ end) × Ascend end ends last

-- where the list of a number begins, by where the lists end
abbrev pub start_of : List ℕ → ℕ → ℕ
start_of ends zero = 0
start_of ends (suc k) = slice_index ends k

module _ {X : Type 0} where
  -- the items of all lists, one list behind the other
  abbrev pub flat : List (List X) → List X
  flat [] = []
  flat (xs ∷ rest) = xs ++ flat rest

  -- where each list ends among the items of all, behind this many others
  abbrev pub ends_from : ℕ → List (List X) → List ℕ
  ends_from k [] = []
  ends_from k (xs ∷ rest) = (k + length xs) ∷ ends_from (k + length xs) rest

  -- the lists that end at these places among the items, where the first begins at this one
  abbrev pub cut : ℕ → List X → List ℕ → List (List X)
  cut start items [] = []
  cut start items (end ∷ ends) = slice_range items start end ∷ cut end items ends

  -- the items stand in the list, in the same order
  abbrev pub IsPart : List X → List X → Type 0
  IsPart [] ys = ⊤
  IsPart (x ∷ xs) ys = (before after : List X) × (ys ≡ before ++ x ∷ after) × IsPart xs after

  -- the item is the last of the list
  abbrev pub EndsWith : List X → X → Type 0
  EndsWith xs x = (before : List X) × (xs ≡ before ++ x ∷ [])

module _ {Node : Type 0} where
  -- the nodes that are left, in their order
  abbrev pub left_in : List (DfsEvent Node) → List Node
  left_in [] = []
  left_in (Pre n ∷ events) = left_in events
  left_in (AfterEdge from to ∷ events) = left_in events
  left_in (Post n ∷ events) = n ∷ left_in events

  -- each of the lists ends with its node
  abbrev pub EndWith : List (List Node) → List Node → Type 0
  EndWith [] [] = ⊤
  EndWith [] (n ∷ ns) = ⊥
  EndWith (c ∷ cs) [] = ⊥
  EndWith (c ∷ cs) (n ∷ ns) = EndsWith c n × EndWith cs ns

  -- the members of each class were met from its last to its first, and the classes stand as the first met of each are
  -- left
  abbrev pub StandAsToured : Digraph Node → List (List Node) → Type 0
  StandAsToured d classes = (events : List (DfsEvent Node)) × (met firsts : List Node) × IsTour d d.nodes events met
      × ((c : List Node) → Contains classes c → IsPart c met) × EndWith classes firsts × IsPart firsts (left_in events)

-- the lists are the classes of mutual reachability of all nodes that can be reached from the listed ones
pub record AreComponents {Node : Type 0} (d : Digraph Node) (classes : List (List Node)) : Type 0 where
  -- each node that can be reached, and no other, stands in one of them
  pub reached : (n : Node) → Contains (flat classes) n ↔ IsReachable d d.nodes n
  -- and stands there once
  pub once : AreDistinct (flat classes)
  -- two nodes are together where each can be reached from the other
  pub together : (c : List Node) → Contains classes c → (a b : Node) → Contains c a → Contains c b
      ↔ (Reaches d a b × Reaches d b a)
  -- in the order of the tour
  pub order : StandAsToured d classes
  -- an edge leads into the same class or a lower one
  pub lower : (i j : ℕ) (c e : List Node) (a b : Node) → slice_get classes i ≡ Some c → slice_get classes j ≡ Some e
      → Contains c a → Contains (d.successors a) b → Contains e b → j ≤ i
