-- The search for classes, event by event. The nodes that were met and stand in no class yet are held in groups: within
-- a group each node reaches each other, and each node of an older group reaches all of a newer one.
use Rattle.std.specs.Prelude.{◌≡◌, ◌⊎◌, ℕ, Bool, true, false, Some, List, [], ◌∷◌, ◌++◌, length, slice_get, reverse, ⊤}
use Rattle.std.specs.List.{Contains}
use Rattle.pc_entity.specs.SecondaryMap.{Defaulted, value_at}
use Rattle.pc_graph.specs.Classes.{EndsWith, ends_from, flat}
use Rattle.pc_graph.specs.declared.dfs.DfsEvent.{DfsEvent}
use Rattle.pc_graph.specs.declared.dfs.DfsEvent.TheVariants.{Pre, AfterEdge, Post}
use Rattle.pc_graph.specs.declared.search.Noted.{Noted}
use Rattle.pc_graph.specs.declared.search.Noted.TheVariants.{Unmet, OnStack, Closed}

-- no item stands twice
abbrev pub IsUnique : {X : Type 0} → List X → Type 0
IsUnique [] = ⊤
IsUnique (x ∷ xs) = ¬ (Contains xs x) × IsUnique xs

-- what is known of the nodes that were met
pub record Search (Node : Type 0) : Type 0 where
  -- the groups, and the nodes of each, the newest first
  pub path : List (List Node)
  -- the classes, the oldest first
  pub closed : List (List Node)

module _ {Node : Type 0} where
  -- the groups down to that of a node become one
  abbrev pub Joins : List (List Node) → Node → List (List Node) → Type 0
  Joins path to joined = (upper lower : List (List Node)) × (group : List Node)
      × (path ≡ upper ++ group ∷ lower) × Contains group to × (joined ≡ flat (upper ++ group ∷ []) ∷ lower)

  -- what an event makes of the search
  abbrev pub Turns : Search Node → DfsEvent Node → Search Node → Type 0
  -- a node that is met is a group of its own
  Turns old (Pre n) new = new ≡ record { path = (n ∷ []) ∷ old.path; closed = old.closed }
  -- an edge back to a node of the groups joins them
  Turns old (AfterEdge from to) new =
      ((joined : List (List Node)) × Joins old.path to joined × (new ≡ record { path = joined; closed = old.closed }))
      ⊎ (¬ (Contains (flat old.path) to) × (new ≡ old))
  -- the newest group is a class where its oldest node is left
  Turns old (Post n) new =
      ((group : List Node) × (rest : List (List Node)) × (old.path ≡ group ∷ rest) × EndsWith group n
      × (new ≡ record { path = rest; closed = old.closed ++ group ∷ [] }))
      ⊎ (((group : List Node) (rest : List (List Node)) → old.path ≡ group ∷ rest → ¬ (EndsWith group n)) × (new ≡ old))

  -- what these events in order make of the search
  abbrev pub Follows : Search Node → List (DfsEvent Node) → Search Node → Type 0
  Follows old [] new = new ≡ old
  Follows old (event ∷ events) new = (mid : Search Node) × Turns old event mid × Follows mid events new

-- what the program holds of a search
pub record Held (Node : Type 0) : Type 0 where
  -- the nodes of the groups, the oldest first
  pub stack : List Node
  -- where each group begins on the stack, the oldest first
  pub heads : List ℕ
  -- what is noted of each node
  pub noted : Defaulted Noted
  -- the nodes of the classes, and where each class ends among them
  pub nodes : List Node
  pub ends : List ℕ

module _ {Node : Type 0} where
  -- where each group begins, by the groups
  abbrev pub heads_of : List (List Node) → List ℕ
  heads_of [] = []
  heads_of (group ∷ rest) = heads_of rest ++ length (flat rest) ∷ []

  -- what a search says of a node that is noted so
  abbrev pub IsNoted : Search Node → Node → Noted → Type 0
  IsNoted s n Unmet = ¬ (Contains (flat s.path) n) × ¬ (Contains (flat s.closed) n)
  IsNoted s n (OnStack k) = slice_get (reverse (flat s.path)) k ≡ Some n
  IsNoted s n Closed = Contains (flat s.closed) n

-- whether a node was met that is noted so
abbrev pub was_met : Noted → Bool
was_met Unmet = false
was_met (OnStack k) = true
was_met Closed = true

module _ {Node : Type 0} (number : Node → ℕ) where
  -- the program's search stands for this one
  pub record StandsFor (held : Held Node) (s : Search Node) : Type 0 where
    pub stack : held.stack ≡ reverse (flat s.path)
    pub heads : held.heads ≡ heads_of s.path
    pub nodes : held.nodes ≡ flat s.closed
    pub ends : held.ends ≡ ends_from 0 s.closed
    pub noted : (n : Node) → IsNoted s n (value_at held.noted (number n))
    pub unique : IsUnique (flat s.path ++ flat s.closed)

  -- what an event asks of the search: that a node that is met is new
  abbrev pub CanTurn : Held Node → DfsEvent Node → Type 0
  CanTurn held (Pre n) = value_at held.noted (number n) ≡ Unmet
  CanTurn held (AfterEdge from to) = ⊤
  CanTurn held (Post n) = ⊤
