-- What is wrong with an item, in the order in which it is looked at: structure, what isn't supported, inconsistent
-- modules, names that stand twice, and the unsafe intrinsics.
use Rattle.std.specs.Prelude.{ℕ, Bool, true, false, List, [], ◌∷◌, map, Option, Some, None, ◌+◌, nat_lt, if◌then◌else◌}
use Rattle.std.specs.List.{list_any}
use Rattle.std.specs.Option.{option_or}
use Rattle.pc_entity.specs.Lists.{names_of}
use Rattle.pc_types.specs.declared.error.Unsupported.{Unsupported}
use Rattle.pc_types.specs.declared.error.Unsupported.TheVariants as unsupported
use Rattle.pc_types.specs.declared.parsed.TypeTable.{TypeTable}
use Rattle.pc_types.specs.declared.parsed.WasmValType.{WasmValType}
use Rattle.pc_types.specs.declared.parsed.WasmValType.TheVariants.{I32}
use Rattle.pc_types.specs.Names.{distinct_names, has_name}
use Rattle.pc_types.specs.Table.{is_value}
use Rattle.pc_parsed.specs.declared.canon.CanonItem.{CanonItem}
use Rattle.pc_parsed.specs.declared.canon.CanonItem.TheVariants as canon
use Rattle.pc_parsed.specs.declared.fault.StaticFault.{StaticFault}
use Rattle.pc_parsed.specs.declared.fault.StaticFault.TheVariants as fault
use Rattle.pc_parsed.specs.declared.payload.AliasItem.{AliasItem}
use Rattle.pc_parsed.specs.declared.payload.AliasItem.TheVariants as alias
use Rattle.pc_parsed.specs.declared.payload.ComponentInstanceItem.{ComponentInstanceItem}
use Rattle.pc_parsed.specs.declared.payload.ComponentInstanceItem.TheVariants as component_instance
use Rattle.pc_parsed.specs.declared.payload.ExportEntry.{ExportEntry}
use Rattle.pc_parsed.specs.declared.payload.ExternName.{ExternName}
use Rattle.pc_parsed.specs.declared.payload.ImportItem.{ImportItem}
use Rattle.pc_parsed.specs.declared.payload.InstanceItem.{InstanceItem}
use Rattle.pc_parsed.specs.declared.payload.InstanceItem.TheVariants as instance
use Rattle.pc_parsed.specs.declared.payload.ItemKind.{ItemKind}
use Rattle.pc_parsed.specs.declared.payload.ItemKind.TheVariants as item
use Rattle.pc_parsed.specs.declared.payload.OuterKind.{OuterKind}
use Rattle.pc_parsed.specs.declared.payload.OuterKind.TheVariants as outer
use Rattle.pc_parsed.specs.Interface.{import_interface_fault}

-- a fault at the item of this number, or else one of a later item
abbrev pub fault_or : ℕ → Option StaticFault → Option (ℕ × StaticFault) → Option (ℕ × StaticFault)
fault_or n (Some f) later = Some (n, f)
fault_or n None later = later

-- the first item that has a fault, with its number; the first of these has number `n`
abbrev pub first_item : {A : Type 0} → (A → Option StaticFault) → (n : ℕ) → List A → Option (ℕ × StaticFault)
first_item test n [] = None
first_item test n (x ∷ xs) = fault_or n (test x) (first_item test (n + 1) xs)

-- a fault where something isn't so
abbrev pub unless : Bool → StaticFault → Option StaticFault
unless true f = None
unless false f = Some f

-- an item kind is that of component values
abbrev pub is_value_kind : ItemKind → Bool
is_value_kind item.Value = true
is_value_kind _ = false

-- component values aren't supported
abbrev pub value_fault : Bool → Option StaticFault
value_fault true = Some (fault.Unsupported unsupported.ComponentValue)
value_fault false = None

-- a name may not stand among those before
abbrev pub name_fault : (earlier : List (List ℕ)) → List ℕ → Option StaticFault
name_fault earlier name = if has_name earlier name then Some fault.DefinedTwice else None

-- the types of context slots that are supported
abbrev pub slot_fault : Unsupported → WasmValType → Option StaticFault
slot_fault u I32 = None
slot_fault u _ = Some (fault.Unsupported u)

-- canonical functions that aren't supported
abbrev pub canon_fault : CanonItem → Option StaticFault
canon_fault canon.ThreadSpawnRef = Some (fault.Unsupported unsupported.ThreadSpawn)
canon_fault canon.ThreadSpawnIndirect = Some (fault.Unsupported unsupported.ThreadSpawn)
canon_fault canon.ThreadAvailableParallelism = Some (fault.Unsupported unsupported.ThreadSpawn)
canon_fault canon.StreamForward = Some (fault.Unsupported unsupported.StreamForward)
canon_fault canon.FutureForward = Some (fault.Unsupported unsupported.FutureForward)
canon_fault (canon.ContextGet core ty slot) = slot_fault unsupported.ContextGetType ty
canon_fault (canon.ContextSet core ty slot) = slot_fault unsupported.ContextSetType ty
canon_fault _ = None

-- no argument, and no item, of a core instance stands under a name twice
abbrev pub instance_fault : InstanceItem → Option StaticFault
instance_fault (instance.Instantiate m args) = unless (distinct_names (names_of args)) fault.DefinedTwice
instance_fault (instance.FromExports items) = unless (distinct_names (names_of items)) fault.DefinedTwice

-- the name of an argument
abbrev pub argument_name : List ℕ × ItemKind × ℕ → List ℕ
argument_name a = a.0

-- the name of an item, without what it says of itself
abbrev pub item_name : ExternName × ItemKind × ℕ → List ℕ
item_name i = i.0.name

-- no argument of a component instance is a value, and none is named twice
abbrev pub arguments_fault : List (List ℕ × ItemKind × ℕ) → Option StaticFault
arguments_fault args =
    option_or (value_fault (list_any (λ (a : List ℕ × ItemKind × ℕ). is_value_kind a.1) args))
    (unless (distinct_names (map argument_name args)) fault.DefinedTwice)

-- no item of which a component instance is made is a value, and none is named twice
abbrev pub items_fault : List (ExternName × ItemKind × ℕ) → Option StaticFault
items_fault items =
    option_or (value_fault (list_any (λ (i : ExternName × ItemKind × ℕ). is_value_kind i.1) items))
    (unless (distinct_names (map item_name items)) fault.DefinedTwice)

-- what is wrong with a component instance
abbrev pub component_instance_fault : ComponentInstanceItem → Option StaticFault
component_instance_fault (component_instance.Instantiate c args ty) = arguments_fault args
component_instance_fault (component_instance.FromExports items ty) = items_fault items

-- an outer alias of a core module or a component crosses open bodies alone; count 0 is the innermost
abbrev pub outer_fault : (open_count : ℕ) → OuterKind → (count : ℕ) → Option StaticFault
outer_fault n outer.CoreModule count = unless (nat_lt count n) fault.Malformed
outer_fault n outer.Component count = unless (nat_lt count n) fault.Malformed
outer_fault n outer.CoreType count = None
outer_fault n outer.Type_ count = None

-- what is wrong with an alias where so many bodies are open
abbrev pub alias_fault : (open_count : ℕ) → AliasItem → Option StaticFault
alias_fault n (alias.InstanceExport kind i name) = value_fault (is_value_kind kind)
alias_fault n (alias.Outer kind count i) = outer_fault n kind count
alias_fault n (alias.CoreInstanceExport kind i name) = None

-- the name of an export, without what it says of itself
abbrev pub export_name : ExportEntry → List ℕ
export_name e = e.name.name

-- what is wrong with an export of a component that exported these names before
abbrev pub export_fault : (earlier : List (List ℕ)) → ExportEntry → Option StaticFault
export_fault earlier e = option_or (value_fault (is_value_kind e.kind)) (name_fault earlier (export_name e))

-- the first faulty export of a section
abbrev pub exports_fault : (earlier : List (List ℕ)) → (n : ℕ) → List ExportEntry → Option (ℕ × StaticFault)
exports_fault earlier n [] = None
exports_fault earlier n (e ∷ es) =
    fault_or n (export_fault earlier e) (exports_fault (export_name e ∷ earlier) (n + 1) es)

-- the name of an import, without what it says of itself
abbrev pub import_name : ImportItem → List ℕ
import_name i = i.name.name

-- what is wrong with an import of a component that imported these names before; `exposed` is the name under which it
-- may import the unsafe intrinsics
abbrev pub import_fault : TypeTable → (exposed : Option (List ℕ)) → (earlier : List (List ℕ)) → ImportItem
    → Option StaticFault
import_fault t exposed earlier i =
    option_or (value_fault (is_value i.ty))
    (option_or (name_fault earlier (import_name i)) (import_interface_fault t exposed (import_name i) i.ty))

-- the first faulty import of a section
abbrev pub imports_fault : TypeTable → (exposed : Option (List ℕ)) → (earlier : List (List ℕ)) → (n : ℕ)
    → List ImportItem
    → Option (ℕ × StaticFault)
imports_fault t exposed earlier n [] = None
imports_fault t exposed earlier n (i ∷ is) =
    fault_or n (import_fault t exposed earlier i) (imports_fault t exposed (import_name i ∷ earlier) (n + 1) is)
