-- A graph that is held as a list of successors for each number, and how it is asked for.
use Rattle.std.specs.Prelude.{◌≡◌, ℕ, ◌+◌, ◌==◌, max, List, [], ◌∷◌, ◌++◌, length, map, if◌then◌else◌, Result, Ok, Err}
use Rattle.std.specs.List.{range_with_len}
use Rattle.std.specs.Fn.{Called}
use Rattle.std.specs.declared.vec.Vec.{Vec}
use Rattle.std.specs.declared.alloc.Global.{Global}
use denote.Ref.{MutBor}
use denote.Param.Members.{Mut}
use Rattle.pc_entity.specs.SecondaryMap.{Defaulted, value_at}
use Rattle.pc_graph.specs.Digraph.{Digraph}

-- the lists as those of every number: none for a number that is not held
abbrev pub held : {Node : Type 0} → List (List Node) → Defaulted (List Node)
held rows = record { items = rows; default = [] }

-- the successors of a number
abbrev pub row_at : {Node : Type 0} → List (List Node) → ℕ → List Node
row_at rows k = value_at (held rows) k

-- the graph whose nodes are all numbers that are held
abbrev pub listed : {Node : Type 0} → (Node → ℕ) → (ℕ → Node) → List (List Node) → Digraph Node
listed number of_number rows =
    record { nodes = map of_number (range_with_len 0 (length rows)); successors = λ n. row_at rows (number n) }

-- how many numbers there are up to the greatest of these
abbrev pub count_to : List ℕ → ℕ
count_to [] = 0
count_to (n ∷ ns) = max (n + 1) (count_to ns)

-- the list that was found for a number, none for a number that was not given
abbrev pub found_for : {Node : Type 0} → List ℕ → List (List Node) → ℕ → List Node
found_for [] rows k = []
found_for (n ∷ ns) [] k = []
found_for (n ∷ ns) (row ∷ rows) k = if n == k then row else found_for ns rows k

module _ {F Node E : Type 0}
    (calls : Mut F (Node × (MutBor (Vec Node Global) × Unit {0}))
    (Result (Unit {0}) E × (MutBor (Vec Node Global) × Unit {0}))) where
  -- a call at a node and an empty vector gives this answer, and leaves this list there and the closure in this state
  pub record Gives (f : F) (n : Node) (answer : Result (Unit {0}) E) (row : List Node) (f' : F) : Type 0 where
    pub shown : MutBor (Vec Node Global)
    pub empty : shown.now.items ≡ []
    pub left : MutBor (Vec Node Global)
    pub called : Called calls f (n, (shown, tt)) (answer, (left, tt)) f'
    pub leaves : left.now.items ≡ row

  -- the calls at these nodes in order answer Ok each, and leave these lists and the closure in this state
  abbrev pub Collects : F → List Node → List (List Node) → F → Type 0
  Collects f [] rows f' = (rows ≡ []) × (f' ≡ f)
  Collects f (n ∷ ns) [] f' = ⊥
  Collects f (n ∷ ns) (row ∷ rows) f' = (mid : F) × Gives f n (Ok tt) row mid × Collects mid ns rows f'

  -- the calls at some of these nodes in order answer Ok each, and that at the next one refuses with this error
  abbrev pub Refuses : F → List Node → E → Type 0
  Refuses f nodes e = (before after : List Node) × (n : Node) × (rows : List (List Node)) × (row : List Node)
      × (mid last : F)
      × (nodes ≡ before ++ n ∷ after) × Collects f before rows mid × Gives mid n (Err e) row last
