-- A walk that goes on: what was met, what was entered and not left, and what is still to come.
use Rattle.std.specs.Prelude.{◌≡◌, ◌⊎◌, ◌<◌, ◌≤◌, ◌+◌, ℕ, Bool, true, false, List, [], ◌∷◌, ◌++◌, length, map, drop}
use Rattle.std.specs.Prelude.{Option, Some, if◌then◌else◌, slice_get, option_and_then, unwrap_or}
use Rattle.std.specs.List.{AllZip, flat_map}
use Rattle.pc_types.specs.declared.parsed.Entity.{Entity}
use Rattle.pc_types.specs.declared.parsed.Entity.TheVariants as entity
use Rattle.pc_types.specs.declared.parsed.TypeTable.{TypeTable}
use Rattle.pc_spec_reading.specs.Resource.{ResourcePath}
use Rattle.pc_types_walk.specs.declared.walk.Entered.{Entered}
use Rattle.pc_types_walk.specs.declared.walk.Place.{Place}
use Rattle.pc_types_walk.specs.declared.walk.Walk.{Walk}
use Rattle.pc_types_walk.specs.declared.walk.Walker.{Walker}
use Rattle.pc_types_walk.specs.Leads.{Part, IsPart, export_paths, paths_of}
use Rattle.pc_types_walk.specs.Walks.{AreNamed, IsFound, export_at}
pub use Rattle.pc_types_walk.specs.Kept.{has, with_number}

-- of some paths the first to each number that isn't met
abbrev pub fresh : (met : ℕ → Bool) → List ResourcePath → List ResourcePath
fresh met [] = []
fresh met (p ∷ ps) = if met p.number then fresh met ps else p ∷ fresh (with_number p.number met) ps

-- a path further out by these names
abbrev pub below : List (List ℕ) → ResourcePath → ResourcePath
below prefix p = record { names = prefix ++ p.names; number = p.number }

-- the number stands at the end of one of these
abbrev pub Ends : ℕ → List ResourcePath → Type 0
Ends n [] = ⊥
Ends n (p ∷ ps) = (n ≡ p.number) ⊎ Ends n ps

-- an instance type that is being walked: its entry, the names that led to it, and the exports that are left
pub record Walked : Type 0 where
  pub entry : ℕ
  pub prefix : List (List ℕ)
  pub left : List (List ℕ × Part)

-- the entries of these are above e
abbrev pub AllAbove : ℕ → List Walked → Type 0
AllAbove e [] = Unit {0}
AllAbove e (f ∷ fs) = (e < f.entry) × AllAbove e fs

-- each entry is below those under it
abbrev pub Falls : List Walked → Type 0
Falls [] = Unit {0}
Falls (f ∷ fs) = AllAbove f.entry fs × Falls fs

-- Where the paths of each entry are these.
module _ (paths : ℕ → List ResourcePath) where
  -- those that are left, the innermost first
  abbrev pub ahead : List Walked → List ResourcePath
  ahead [] = []
  ahead (f ∷ fs) = map (below f.prefix) (flat_map (export_paths paths) f.left) ++ ahead fs

  -- the number is left in an entry that isn't above k
  abbrev pub Owed : List Walked → (k n : ℕ) → Type 0
  Owed [] k n = ⊥
  Owed (f ∷ fs) k n = ((f.entry ≤ k) × Ends n (flat_map (export_paths paths) f.left)) ⊎ Owed fs k n

  -- what an entered entry leads to was met, or is left in one that isn't above it; entries fall towards the innermost
  pub record Stands (met visited : ℕ → Bool) (fs : List Walked) : Type 0 where
    pub owed : (k : ℕ) → visited k ≡ true → (n : ℕ) → Ends n (paths k) → (met n ≡ true) ⊎ Owed fs k n
    pub falls : Falls fs

-- an entry that was entered, where the exports that are left are those behind the next
abbrev pub IsEntered : TypeTable → (leads : List (List ℕ)) → (names : List (List (List ℕ))) → Entered → Walked → Type 0
IsEntered t leads names o f =
    (places : List ℕ) × (slice_get leads o.entry ≡ Some places) × (o.entry ≡ f.entry)
    × (slice_get names o.place ≡ Some f.prefix) × AllZip (IsPart t o.entry) (drop o.next places) f.left

-- a walk on its way: what was found and what is still to come first are all, in order. The entries that aren't left
-- stand with the innermost first
pub record Goes (t : TypeTable) (leads : List (List ℕ)) (all : List ResourcePath) (met visited : ℕ → Bool)
    (entered : List Entered) (w : Walk) : Type 0 where
  pub names : List (List (List ℕ))
  pub named : AreNamed t w.places names
  pub so_far : List ResourcePath
  pub found : AllZip (IsFound names) w.found so_far
  pub walked : List Walked
  pub inside : AllZip (IsEntered t leads names) entered walked
  pub stands : Stands (paths_of t) met visited walked
  pub left : so_far ++ fresh met (ahead (paths_of t) walked) ≡ all

-- the next export of an entry that was entered, by its place
abbrev pub next_export : List (List ℕ) → Entered → Option ℕ
next_export leads o = option_and_then (λ places. slice_get places o.next) (slice_get leads o.entry)

-- how often exports are still passed in an entry that isn't left, and it is left
abbrev pub work_in : List (List ℕ) → Entered → ℕ
work_in leads o = length (drop o.next (unwrap_or (slice_get leads o.entry) [])) + 1

-- the same in all that aren't left
abbrev pub work_inside : List (List ℕ) → List Entered → ℕ
work_inside leads [] = 0
work_inside leads (o ∷ os) = work_in leads o + work_inside leads os

-- the same in the entries from a number on that weren't entered
abbrev pub work_outside : (visited : ℕ → Bool) → (first : ℕ) → List (List ℕ) → ℕ
work_outside visited i [] = 0
work_outside visited i (places ∷ rest) =
    (if visited i then 0 else length places + 1) + work_outside visited (i + 1) rest

-- how many steps are still to come, at most
abbrev pub work : List (List ℕ) → (visited : ℕ → Bool) → List Entered → ℕ
work leads visited entered = work_outside visited 0 leads + work_inside leads entered

-- a walk at its start, with an entry entered
pub record Starts (n : ℕ) (w : Walker) : Type 0 where
  pub met : (q : ℕ) → has w.met q ≡ false
  pub visited : (q : ℕ) → has w.visited q ≡ with_number n (λ k. false) q
  pub stack : w.stack.items ≡ record { entry = n; place = 0; next = 0 } ∷ []
  pub walk : w.walk ≡ record { places = []; found = [] }

-- nothing is entered or met
pub record Passed (old new : Walker) : Type 0 where
  pub met : (q : ℕ) → has new.met q ≡ has old.met q
  pub visited : (q : ℕ) → has new.visited q ≡ has old.visited q
  pub stack : new.stack.items ≡ old.stack.items
  pub walk : new.walk ≡ old.walk

-- a resource is met for the first time, at a place
pub record MeetsNew (place : Place) (n : ℕ) (old new : Walker) : Type 0 where
  pub before : has old.met n ≡ false
  pub met : (q : ℕ) → has new.met q ≡ with_number n (has old.met) q
  pub visited : (q : ℕ) → has new.visited q ≡ has old.visited q
  pub stack : new.stack.items ≡ old.stack.items
  pub places : new.walk.places ≡ old.walk.places ++ place ∷ []
  pub found : new.walk.found ≡ old.walk.found ++ record { number = n; place = length old.walk.places + 1 } ∷ []

-- an instance entry is entered, at a place
pub record EntersNew (place : Place) (n : ℕ) (old new : Walker) : Type 0 where
  pub before : has old.visited n ≡ false
  pub met : (q : ℕ) → has new.met q ≡ has old.met q
  pub visited : (q : ℕ) → has new.visited q ≡ with_number n (has old.visited) q
  pub stack : new.stack.items
      ≡ old.stack.items ++ record { entry = n; place = length old.walk.places + 1; next = 0 } ∷ []
  pub places : new.walk.places ≡ old.walk.places ++ place ∷ []
  pub found : new.walk.found ≡ old.walk.found

-- a resource is met, unless it was before
abbrev pub Meets : Place → ℕ → (old new : Walker) → Type 0
Meets place n old new = ((has old.met n ≡ true) × Passed old new) ⊎ MeetsNew place n old new

-- an instance entry is entered, unless it was before
abbrev pub Enters : Place → ℕ → (old new : Walker) → Type 0
Enters place n old new = ((has old.visited n ≡ true) × Passed old new) ⊎ EntersNew place n old new

-- what an export names is passed
abbrev pub PassesEntity : Place → Entity → (old new : Walker) → Type 0
PassesEntity place (entity.Type_ n) old new = Meets place n old new
PassesEntity place (entity.Instance n) old new = Enters place n old new
PassesEntity place _ old new = Passed old new

-- an export is passed that is there
abbrev pub Passes : TypeTable → Place → (old new : Walker) → Type 0
Passes t place old new =
    (x : List ℕ × Entity) → export_at t place.entry place.export ≡ Some x → PassesEntity place x.1 old new
