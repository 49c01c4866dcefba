-- From the entries of a section to items, in order.
use Rattle.std.specs.Prelude.{ℕ, ◌+◌, List, [], ◌∷◌, map, Option, Some, None}
use Rattle.std.specs.List.{filter_map}
use Rattle.pc_types.specs.declared.module_record.ModuleRecord.{ModuleRecord}
use Rattle.pc_parsed.specs.declared.payload.AliasItem.{AliasItem}
use Rattle.pc_parsed.specs.declared.payload.AliasItem.TheVariants as alias
use Rattle.pc_parsed.specs.declared.payload.ComponentInstanceItem.{ComponentInstanceItem}
use Rattle.pc_parsed.specs.declared.payload.ComponentInstanceItem.TheVariants as component_instance
use Rattle.pc_parsed.specs.declared.payload.ExportEntry.{ExportEntry}
use Rattle.pc_parsed.specs.declared.payload.ExternName.{ExternName}
use Rattle.pc_parsed.specs.declared.payload.ImportItem.{ImportItem}
use Rattle.pc_parsed.specs.declared.payload.InstanceItem.{InstanceItem}
use Rattle.pc_parsed.specs.declared.payload.InstanceItem.TheVariants as instance
use Rattle.pc_parsed.specs.declared.payload.ItemKind.{ItemKind}
use Rattle.pc_parsed.specs.declared.payload.OuterKind.TheVariants as outer
use Rattle.pc_parsed.specs.declared.payload.Payload.{Payload}
use Rattle.pc_parsed.specs.declared.payload.Payload.TheVariants as payload
use Rattle.pc_parsed.specs.declared.payload.TypeItem.{TypeItem}
use Rattle.pc_parsed.specs.declared.payload.TypeItem.TheVariants as type_
use Rattle.pc_spec_reading.specs.Item
use Rattle.pc_spec_reading.specs.Canonical.{canonical_item}

-- a resource is an item; any other type is none
abbrev pub type_item : TypeItem → Option Item.Item
type_item (type_.Resource id representation destructor) = Some (Item.resource_item id representation destructor)
type_item type_.Other = None

-- an import
abbrev pub import_item : ImportItem → Item.Item
import_item i = Item.import_item i.name i.ty

-- a core instance: of a module, or from items of the scope
abbrev pub instance_item : InstanceItem → Item.Item
instance_item (instance.Instantiate m args) = Item.instantiate_module_item m args
instance_item (instance.FromExports items) = Item.core_exports_item items

-- an argument of an instantiation
abbrev pub argument_of : List ℕ × ItemKind × ℕ → Item.ArgumentOf
argument_of a = record { name = a.0; kind = a.1; index = a.2 }

-- an item of an instance from items
abbrev pub named_item : ExternName × ItemKind × ℕ → Item.ExportOf
named_item e = record { name = e.0; kind = e.1; index = e.2 }

-- a component instance: of a component, or from items of the scope
abbrev pub component_instance_item : ComponentInstanceItem → Item.Item
component_instance_item (component_instance.Instantiate c args ty) =
    Item.instantiate_component_item c (map argument_of args) ty
component_instance_item (component_instance.FromExports exports ty) =
    Item.component_exports_item (map named_item exports) ty

-- an export
abbrev pub export_item : ExportEntry → Item.Item
export_item e = Item.export_item (record { name = e.name; kind = e.kind; index = e.index })

-- an outer alias of a type or a core type is no item: the type table has the type
abbrev pub alias_item : AliasItem → Option Item.Item
alias_item (alias.InstanceExport k n name) = Some (Item.alias_item k n name)
alias_item (alias.CoreInstanceExport k n name) = Some (Item.core_alias_item k n name)
alias_item (alias.Outer outer.CoreModule count n) = Some (Item.outer_item Item.a_module count n)
alias_item (alias.Outer outer.Component count n) = Some (Item.outer_item Item.a_component count n)
alias_item (alias.Outer outer.Type_ count n) = None
alias_item (alias.Outer outer.CoreType count n) = None

-- the items of a payload other than a nested component, where `m` core modules came before in the whole list
unfoldable pub items_of : (m : ℕ) → Payload → List Item.Item
items_of m (payload.ComponentTypeSection items) = filter_map type_item items
items_of m (payload.ComponentImportSection items) = map import_item items
items_of m (payload.ComponentCanonicalSection items) = filter_map canonical_item items
items_of m (payload.ModuleSection r ty) = Item.module_item m ty ∷ []
items_of m (payload.InstanceSection items) = map instance_item items
items_of m (payload.ComponentInstanceSection items) = map component_instance_item items
items_of m (payload.ComponentExportSection items) = map export_item items
items_of m (payload.ComponentAliasSection items) = filter_map alias_item items
items_of m _ = []

-- the core modules of payloads, in order: the number of one is its place
abbrev pub module_of : Payload → Option ModuleRecord
module_of (payload.ModuleSection r ty) = Some r
module_of _ = None

-- the core modules of a list
abbrev pub modules_of : List Payload → List ModuleRecord
modules_of ps = filter_map module_of ps

-- how many core modules there are after a payload
abbrev pub modules_after : ℕ → Payload → ℕ
modules_after m (payload.ModuleSection r ty) = m + 1
modules_after m _ = m
