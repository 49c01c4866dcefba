-- What a walk answers: places, each one export further than an earlier one, and the resources that stand there.
use Rattle.std.specs.Prelude.{◌≡◌, ◌≤◌, ◌+◌, ℕ, List, [], ◌∷◌, ◌++◌, length, Option, Some, slice_get, option_and_then}
use Rattle.std.specs.List.{AllZip}
use Rattle.pc_types.specs.declared.parsed.DeclType.{DeclType}
use Rattle.pc_types.specs.declared.parsed.DeclType.TheVariants as entry
use Rattle.pc_types.specs.declared.parsed.Entity.{Entity}
use Rattle.pc_types.specs.declared.parsed.TypeTable.{TypeTable}
use Rattle.pc_spec_reading.specs.Resource.{ResourcePath}
use Rattle.pc_types_walk.specs.declared.walk.Found.{Found}
use Rattle.pc_types_walk.specs.declared.walk.Place.{Place}
use Rattle.pc_types_walk.specs.declared.walk.Walk.{Walk}

-- the exports of an instance type; another type has none
abbrev pub exports_of : DeclType → List (List ℕ × Entity)
exports_of (entry.Instance exports) = exports
exports_of _ = []

-- an export of an entry, by its place among them
abbrev pub export_at : TypeTable → (entry export : ℕ) → Option (List ℕ × Entity)
export_at t n i = option_and_then (λ e. slice_get (exports_of e) i) (slice_get t.types n)

-- the names that lead to each place, with the start in front of all: none lead to the start, and to a place those of
-- its parent, which stands before it, and then the name of the export
pub record AreNamed (t : TypeTable) (places : List Place) (names : List (List (List ℕ))) : Type 0 where
  pub start : slice_get names 0 ≡ Some []
  pub count : length names ≡ length places + 1
  pub further : (k : ℕ) (p : Place) → slice_get places k ≡ Some p → (prefix : List (List ℕ)) × (x : List ℕ × Entity)
      × (p.parent ≤ k) × (slice_get names p.parent ≡ Some prefix) × (export_at t p.entry p.export ≡ Some x)
      × (slice_get names (k + 1) ≡ Some (prefix ++ x.0 ∷ []))

-- a resource stands at the end of a path
abbrev pub IsFound : List (List (List ℕ)) → Found → ResourcePath → Type 0
IsFound names f p = (f.number ≡ p.number) × (slice_get names f.place ≡ Some p.names)

-- a walk comes to the ends of these paths, in order
pub record IsWalk (t : TypeTable) (w : Walk) (ps : List ResourcePath) : Type 0 where
  pub names : List (List (List ℕ))
  pub named : AreNamed t w.places names
  pub found : AllZip (IsFound names) w.found ps
