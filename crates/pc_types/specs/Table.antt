-- When a type table is sound: each entry names earlier entries of the kind that the place wants, core
-- signatures that the table holds, and no name twice in one list.
use Rattle.std.specs.Prelude.{ℕ, Bool, true, false, List, [], ◌∷◌, ◌++◌, length, map, Option, Some, None, ◌&&◌, ◌||◌}
use Rattle.std.specs.Prelude.{nat_lt, if◌then◌else◌, slice_get}
use Rattle.std.specs.List.{list_all, list_any}
use Rattle.pc_types.specs.declared.parsed.CoreEntity.{CoreEntity}
use Rattle.pc_types.specs.declared.parsed.Entity.{Entity}
use Rattle.pc_types.specs.declared.parsed.Entity.TheVariants as entity
use Rattle.pc_types.specs.declared.parsed.ValType.{ValType}
use Rattle.pc_types.specs.declared.parsed.ValType.TheVariants as val
use Rattle.pc_types.specs.declared.parsed.DeclType.{DeclType}
use Rattle.pc_types.specs.declared.parsed.DeclType.TheVariants as entry
use Rattle.pc_types.specs.declared.parsed.TypeTable.{TypeTable}
use Rattle.pc_types.specs.declared.error.Error.{Error}
use Rattle.pc_types.specs.declared.error.Error.TheVariants as error
use Rattle.pc_types.specs.declared.error.Place.TheVariants as place
use Rattle.pc_types.specs.declared.error.Unsupported.TheVariants.{ComponentValue}
use Rattle.pc_entity.specs.Lists.{names_of}
use Rattle.pc_types.specs.Names.{distinct_names, are_distinct, same_pair}
use Rattle.pc_types.specs.Record.{is_typed}

-- whether there is a value, and it passes the test
abbrev pub is_some_and : {A : Type 0} → (A → Bool) → Option A → Bool
is_some_and test None = false
is_some_and test (Some x) = test x

-- whether a value, if there is one, passes the test
abbrev pub is_none_or : {A : Type 0} → (A → Bool) → Option A → Bool
is_none_or test None = true
is_none_or test (Some x) = test x

-- a resource type
abbrev pub is_resource : DeclType → Bool
is_resource entry.Resource = true
is_resource _ = false

-- a function type
abbrev pub is_func : DeclType → Bool
is_func (entry.Func params result is_async) = true
is_func _ = false

-- an instance type
abbrev pub is_instance : DeclType → Bool
is_instance (entry.Instance exports) = true
is_instance _ = false

-- a component type
abbrev pub is_component : DeclType → Bool
is_component (entry.Component imports exports) = true
is_component _ = false

-- a module type
abbrev pub is_module : DeclType → Bool
is_module (entry.Module imports exports) = true
is_module _ = false

-- a defined type: one that values have
abbrev pub is_defined_type : DeclType → Bool
is_defined_type entry.Resource = false
is_defined_type (entry.Func params result is_async) = false
is_defined_type (entry.Instance exports) = false
is_defined_type (entry.Component imports exports) = false
is_defined_type (entry.Module imports exports) = false
is_defined_type _ = true

-- a value type whose number is that of a defined type among the earlier entries
abbrev pub is_sound_val : List DeclType → ValType → Bool
is_sound_val earlier (val.Prim p) = true
is_sound_val earlier (val.Type_ n) = is_some_and is_defined_type (slice_get earlier n)

-- an entity whose number is that of an earlier entry of its kind; a type may be of any kind
abbrev pub is_sound_entity : List DeclType → Entity → Bool
is_sound_entity earlier (entity.Func n) = is_some_and is_func (slice_get earlier n)
is_sound_entity earlier (entity.Instance n) = is_some_and is_instance (slice_get earlier n)
is_sound_entity earlier (entity.Component n) = is_some_and is_component (slice_get earlier n)
is_sound_entity earlier (entity.Module n) = is_some_and is_module (slice_get earlier n)
is_sound_entity earlier (entity.Type_ n) = nat_lt n (length earlier)
is_sound_entity earlier entity.Value = true

-- the named value types of a list are sound, and no name stands twice
abbrev pub are_sound_fields : List DeclType → List (List ℕ × ValType) → Bool
are_sound_fields earlier fields =
    list_all (λ (f : List ℕ × ValType). is_sound_val earlier f.1) fields && distinct_names (names_of fields)

-- the named value types of a list, each of which may be left out, are sound, and no name stands twice
abbrev pub are_sound_cases : List DeclType → List (List ℕ × Option ValType) → Bool
are_sound_cases earlier cases =
    list_all (λ (c : List ℕ × Option ValType). is_none_or (is_sound_val earlier) c.1) cases
    && distinct_names (names_of cases)

-- the named entities of a list are sound, and no name stands twice
abbrev pub are_sound_externs : List DeclType → List (List ℕ × Entity) → Bool
are_sound_externs earlier externs =
    list_all (λ (e : List ℕ × Entity). is_sound_entity earlier e.1) externs && distinct_names (names_of externs)

-- an entry after these earlier ones names what it may
abbrev pub is_sound_entry : TypeTable → List DeclType → DeclType → Bool
is_sound_entry t earlier entry.Resource = true
is_sound_entry t earlier (entry.Func params result is_async) =
    are_sound_fields earlier params && is_none_or (is_sound_val earlier) result
is_sound_entry t earlier (entry.Val v) = is_sound_val earlier v
is_sound_entry t earlier (entry.Record fields) = are_sound_fields earlier fields
is_sound_entry t earlier (entry.Variant cases) = are_sound_cases earlier cases
is_sound_entry t earlier (entry.List v) = is_sound_val earlier v
is_sound_entry t earlier (entry.Tuple vs) = list_all (is_sound_val earlier) vs
is_sound_entry t earlier (entry.Flags names) = distinct_names names
is_sound_entry t earlier (entry.Enum names) = distinct_names names
is_sound_entry t earlier (entry.Option v) = is_sound_val earlier v
is_sound_entry t earlier (entry.Result ok err) =
    is_none_or (is_sound_val earlier) ok && is_none_or (is_sound_val earlier) err
is_sound_entry t earlier (entry.Own n) = is_some_and is_resource (slice_get earlier n)
is_sound_entry t earlier (entry.Borrow n) = is_some_and is_resource (slice_get earlier n)
is_sound_entry t earlier (entry.Stream v) = is_none_or (is_sound_val earlier) v
is_sound_entry t earlier (entry.Future v) = is_none_or (is_sound_val earlier) v
is_sound_entry t earlier (entry.Instance exports) = are_sound_externs earlier exports
is_sound_entry t earlier (entry.Component imports exports) =
    are_sound_externs earlier imports && are_sound_externs earlier exports
is_sound_entry t earlier (entry.Module imports exports) =
    list_all (λ (i : List ℕ × List ℕ × CoreEntity). is_typed t i.2) imports
    && list_all (λ (e : List ℕ × CoreEntity). is_typed t e.1) exports
    && are_distinct same_pair (map (λ (i : List ℕ × List ℕ × CoreEntity). (i.0, i.1)) imports)
    && distinct_names (names_of exports)

-- a component value
abbrev pub is_value : Entity → Bool
is_value entity.Value = true
is_value _ = false

-- an entry that imports or exports a component value
abbrev pub holds_value : DeclType → Bool
holds_value (entry.Instance exports) = list_any (λ (e : List ℕ × Entity). is_value e.1) exports
holds_value (entry.Component imports exports) =
    list_any (λ (e : List ℕ × Entity). is_value e.1) imports || list_any (λ (e : List ℕ × Entity). is_value e.1) exports
holds_value _ = false

-- what is wrong with an entry: it names what it may not, or it is sound otherwise and holds a component value
pub data EntryFault : Type 0 where
  bad_entry : EntryFault
  value_entry : EntryFault

-- what is wrong with an entry after these earlier ones, if anything is
abbrev pub entry_fault : TypeTable → List DeclType → DeclType → Option EntryFault
entry_fault t earlier e =
    if is_sound_entry t earlier e then (if holds_value e then Some value_entry else None) else Some bad_entry

-- a fault at this number, or else what comes later
abbrev pub fault_or : ℕ → Option EntryFault → Option (ℕ × EntryFault) → Option (ℕ × EntryFault)
fault_or n (Some f) later = Some (n, f)
fault_or n None later = later

-- the first faulty entry among those that stand after the earlier ones, with its number
abbrev pub fault_from : TypeTable → List DeclType → List DeclType → Option (ℕ × EntryFault)
fault_from t earlier [] = None
fault_from t earlier (e ∷ es) =
    fault_or (length earlier) (entry_fault t earlier e) (fault_from t (earlier ++ e ∷ []) es)

-- the first faulty entry of a table, with its number
abbrev pub table_fault : TypeTable → Option (ℕ × EntryFault)
table_fault t = fault_from t [] t.types

-- the error that a fault is answered with
abbrev pub table_error : ℕ × EntryFault → Error
table_error (n, bad_entry) = error.BadTable (place.Table n)
table_error (n, value_entry) = error.Unsupported ComponentValue (place.Table n)
