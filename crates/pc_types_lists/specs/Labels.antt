-- Types that are told by their labels and their parts.
use Rattle.std.specs.Prelude.{◌≡◌, ◌≤◌, ℕ, Bool, List, map, length, Some, Option, slice_get}
use Rattle.pc_entity.specs.Lists.{AreDistinct, names_of}
use Rattle.pc_types.specs.declared.type_index.TypeTupleIndex.{TypeTupleIndex}
use Rattle.pc_types.specs.declared.types.InterfaceType.{InterfaceType}
use Rattle.pc_types.specs.declared.types.TypeComponent.{TypeComponent}
use Rattle.pc_types.specs.declared.types.TypeComponentInstance.{TypeComponentInstance}
use Rattle.pc_types.specs.declared.types.TypeDef.{TypeDef}
use Rattle.pc_types.specs.declared.types.TypeFunc.{TypeFunc}
use Rattle.pc_types.specs.declared.types.TypeRecord.{TypeRecord}
use Rattle.pc_types.specs.declared.types.TypeVariant.{TypeVariant}

-- the labels of a function type: the names of its parameters
abbrev pub func_labels : TypeFunc → List (List ℕ)
func_labels f = f.param_names

-- those of a record: the names of its fields
abbrev pub record_labels : TypeRecord → List (List ℕ)
record_labels r = names_of r.fields

-- those of a variant: the names of its cases
abbrev pub variant_labels : TypeVariant → List (List ℕ)
variant_labels v = names_of v.cases

-- those of an instance type: the names of its exports
abbrev pub instance_labels : TypeComponentInstance → List (List ℕ)
instance_labels i = names_of i.exports

-- those of a component type: the names of its imports, and those of its exports
abbrev pub component_labels : TypeComponent → List (List ℕ) × List (List ℕ)
component_labels c = (names_of c.imports, names_of c.exports)

-- what stands under the names
abbrev pub values_of : {W : Type 0} → List (List ℕ × W) → List W
values_of items = map (λ e. e.1) items

-- what a function type is told by beside its labels: the tuples of its parameters and results, and whether it is
-- asynchronous
abbrev pub func_parts : TypeFunc → (TypeTupleIndex × TypeTupleIndex) × Bool
func_parts f = ((f.params, f.results), f.async_)

-- a record: the types of its fields
abbrev pub record_parts : TypeRecord → List InterfaceType
record_parts r = values_of r.fields

-- a variant: the types of its cases, as far as they have some
abbrev pub variant_parts : TypeVariant → List (Option InterfaceType)
variant_parts v = values_of v.cases

-- an instance type: the types of its exports
abbrev pub instance_parts : TypeComponentInstance → List TypeDef
instance_parts i = values_of i.exports

-- a component type: the types of its imports, and those of its exports
abbrev pub component_parts : TypeComponent → List TypeDef × List TypeDef
component_parts c = (values_of c.imports, values_of c.exports)

-- the type with this number has the labels of this one
abbrev pub HasLabelsOf : {V L : Type 0} → (V → L) → List V → ℕ → V → Type 0
HasLabelsOf {V} labels types n v = (u : V) × (slice_get types n ≡ Some u) × (labels u ≡ labels v)

-- each type has its key at its place, with the number of its labels and with its parts, and there are no more labels
-- than types
pub record AreKeyed {V L P : Type 0} (labels : V → L) (parts : V → P) (names : List L) (keys : List (ℕ × P))
    (types : List V) : Type 0 where
  pub as_many : length keys ≡ length types
  pub each : (i : ℕ) (v : V) → slice_get types i ≡ Some v
      → (n : ℕ) × (slice_get keys i ≡ Some (n, parts v)) × (slice_get names n ≡ Some (labels v))
  pub names_once : AreDistinct names
  pub keys_once : AreDistinct keys
  pub few : length names ≤ length types
