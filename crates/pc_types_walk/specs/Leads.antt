-- Through which exports of an instance type its resources are first met.
use Rattle.std.specs.Prelude.{◌≡◌, ◌<◌, ℕ, List, [], ◌∷◌, length, map, Some, slice_get, unwrap_or}
use Rattle.std.specs.List.{AllZip, flat_map}
use Rattle.pc_types.specs.declared.parsed.Entity.{Entity}
use Rattle.pc_types.specs.declared.parsed.Entity.TheVariants as entity
use Rattle.pc_types.specs.declared.parsed.TypeTable.{TypeTable}
use Rattle.pc_spec_reading.specs.Once.{each_once}
use Rattle.pc_spec_reading.specs.Resource.{ResourcePath, paths_from, same_number, under}
use Rattle.pc_types_walk.specs.Walks.{export_at}

-- what an export names that leads to resources: a resource, or an instance type, by number
pub data Part : Type 0 where
  a_resource : ℕ → Part
  an_instance : ℕ → Part

-- its number
abbrev pub number_of : Part → ℕ
number_of (a_resource n) = n
number_of (an_instance n) = n

-- the entity as which it is declared
abbrev pub entity_of : Part → Entity
entity_of (a_resource n) = entity.Type_ n
entity_of (an_instance n) = entity.Instance n

-- the resource paths of an instance type
abbrev pub paths_of : TypeTable → ℕ → List ResourcePath
paths_of t n = unwrap_or (slice_get (paths_from t [] t.types) n) []

-- the paths that begin with an export of this name, where those of instance types are given
abbrev pub part_paths : (ℕ → List ResourcePath) → List ℕ → Part → List ResourcePath
part_paths paths name (a_resource n) = record { names = name ∷ []; number = n } ∷ []
part_paths paths name (an_instance n) = map (under name) (paths n)

-- the same, of the export
abbrev pub export_paths : (ℕ → List ResourcePath) → List ℕ × Part → List ResourcePath
export_paths paths x = part_paths paths x.0 x.1

-- an instance type among the entries before; whether a number is that of a resource is in the paths
abbrev pub IsBefore : ℕ → Part → Type 0
IsBefore n (a_resource m) = Unit {0}
IsBefore n (an_instance m) = m < n

-- an export of an entry, by its place, that names something that leads to resources
abbrev pub IsPart : TypeTable → (entry export : ℕ) → List ℕ × Part → Type 0
IsPart t n i x = (export_at t n i ≡ Some (x.0, entity_of x.1)) × IsBefore n x.1

-- through these exports of an entry the same resources are met first as through all
pub record IsThrough (t : TypeTable) (n : ℕ) (places : List ℕ) : Type 0 where
  pub exports : List (List ℕ × Part)
  pub there : AllZip (IsPart t n) places exports
  pub firsts : each_once same_number (paths_of t n)
      ≡ each_once same_number (flat_map (export_paths (paths_of t)) exports)

-- for each entry of a table, exports through which its resources are met first
pub record AreLeads (t : TypeTable) (leads : List (List ℕ)) : Type 0 where
  pub count : length leads ≡ length t.types
  pub through : (n : ℕ) (places : List ℕ) → slice_get leads n ≡ Some places → IsThrough t n places
