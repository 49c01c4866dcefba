-- The places of a walk that lead to some of its resources, and how they are numbered anew.
use Rattle.std.specs.Prelude.{◌≡◌, ◌<◌, ◌≤◌, ◌+◌, ◌⊎◌, ℕ, Bool, true, false, List, [], ◌∷◌, ◌++◌, length, Some, get_or, slice_get}
use Rattle.std.specs.Prelude.{slice_set}
use Rattle.std.specs.List.{AllZip}
use Rattle.pc_types.specs.declared.parsed.TypeTable.{TypeTable}
use Rattle.pc_types_walk.specs.declared.walk.Found.{Found}
use Rattle.pc_types_walk.specs.declared.walk.Place.{Place}
use Rattle.pc_types_walk.specs.Walks.{AreNamed}

-- each place is behind its parent
abbrev pub AreBehind : List Place → Type 0
AreBehind places = (k : ℕ) (p : Place) → slice_get places k ≡ Some p → p.parent ≤ k

-- the places of these resources are marked, and so is the parent of each that is
pub record AreMarked (places : List Place) (found : List Found) (marks : List Bool) : Type 0 where
  pub count : length marks ≡ length places + 1
  pub found_marked : (k : ℕ) (f : Found) → slice_get found k ≡ Some f → slice_get marks f.place ≡ Some true
  pub parents : (k : ℕ) (p : Place) → slice_get places k ≡ Some p → slice_get marks (k + 1) ≡ Some true
      → slice_get marks p.parent ≡ Some true

-- the places of the first of these resources are marked
pub record FoundMarked (size : ℕ) (found : List Found) (n : ℕ) (marks : List Bool) : Type 0 where
  pub count : length marks ≡ size
  pub found_marked : (k : ℕ) (f : Found) → k < n → slice_get found k ≡ Some f → slice_get marks f.place ≡ Some true

-- the parents of the places from a number on are marked, and what was
pub record ParentsMarked (places : List Place) (n : ℕ) (old new : List Bool) : Type 0 where
  pub count : length new ≡ length places + 1
  pub still : (i : ℕ) → slice_get old i ≡ Some true → slice_get new i ≡ Some true
  pub parents : (k : ℕ) (p : Place) → n ≤ k → slice_get places k ≡ Some p → slice_get new (k + 1) ≡ Some true
      → slice_get new p.parent ≡ Some true

-- a parent is marked if its place is, which has this number
abbrev pub MarksParent : (number : ℕ) → Place → (old new : List Bool) → Type 0
MarksParent n p old new =
    ((slice_get old n ≡ Some true) × (new ≡ slice_set old p.parent true))
    ⊎ ((slice_get old n ≡ Some false) × (new ≡ old))

-- a place with another parent
abbrev pub with_parent : Place → ℕ → Place
with_parent p n = record { parent = n; entry = p.entry; export = p.export }

-- a place is kept if it is marked, and has the number behind those before it
abbrev pub KeepsPlace : Place → Bool → (kept : List Place) → (numbers : List ℕ) → (kept' : List Place)
    → (numbers' : List ℕ) → Type 0
KeepsPlace p true kept numbers kept' numbers' =
    (kept' ≡ kept ++ with_parent p (get_or numbers p.parent 0) ∷ []) × (numbers' ≡ numbers ++ (length kept + 1) ∷ [])
KeepsPlace p false kept numbers kept' numbers' = (kept' ≡ kept) × (numbers' ≡ numbers ++ 0 ∷ [])

-- what is marked is kept, under a number to which the same names lead
pub record KeepsMarked (t : TypeTable) (names : List (List (List ℕ))) (marks : List Bool) (kept : List Place)
    (numbers : List ℕ) : Type 0 where
  pub kept_names : List (List (List ℕ))
  pub named : AreNamed t kept kept_names
  pub same : (k n : ℕ) (ns : List (List ℕ)) → slice_get marks k ≡ Some true → slice_get numbers k ≡ Some n
      → slice_get names k ≡ Some ns → slice_get kept_names n ≡ Some ns

-- a resource at the number that its place has now
abbrev pub moved_by : List ℕ → Found → Found
moved_by numbers f = record { number = f.number; place = get_or numbers f.place 0 }

-- the same resource, to which the same names lead
abbrev pub IsMoved : (names names' : List (List (List ℕ))) → Found → Found → Type 0
IsMoved names names' f g =
    (g.number ≡ f.number)
    × ((ns : List (List ℕ)) → slice_get names f.place ≡ Some ns → slice_get names' g.place ≡ Some ns)

-- places to which the same names lead, and the same resources at them
pub record Trims (t : TypeTable) (names : List (List (List ℕ))) (found : List Found) (places' : List Place)
    (found' : List Found) : Type 0 where
  pub names' : List (List (List ℕ))
  pub named : AreNamed t places' names'
  pub moved : AllZip (IsMoved names names') found found'
