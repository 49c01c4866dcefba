-- What core instances have under names, as the code finds it.
use Rattle.std.specs.Prelude.{ℕ, [], List, Option, None, Some, if◌then◌else◌, option_and_then, slice_get}
use Rattle.pc_entity.specs.declared.string_pool.Atom.{Atom}
use Rattle.pc_dfg.specs.declared.ids.InstanceId.{InstanceId}
use Rattle.pc_numbers.specs.declared.entity_index.EntityIndex.{EntityIndex}
use Rattle.pc_types.specs.declared.module_record.ModuleRecord.{ModuleRecord}
use Rattle.pc_types.specs.declared.parsed.CoreEntity.{CoreEntity}
use Rattle.pc_types.specs.declared.parsed.CoreKind.{CoreKind}
use Rattle.pc_types.specs.declared.parsed.DeclType.{DeclType}
use Rattle.pc_types.specs.declared.parsed.DeclType.TheVariants as entry
use Rattle.pc_types.specs.declared.parsed.TypeTable.{TypeTable}
use Rattle.pc_types.specs.Record.{export_of, index_kind, kind_of, same_kind}
use Rattle.pc_types_walk.specs.Names.{export_place}
use Rattle.pc_inline_names.specs.Numbers.{numbered_value}
use Rattle.pc_inline_state.specs.declared.core_item.CoreItem.{CoreItem}
use Rattle.pc_inline_state.specs.declared.core_item.CoreItem.TheVariants as item
use Rattle.pc_inline_state.specs.declared.definition.CoreId.{CoreId}
use Rattle.pc_inline_state.specs.declared.frame.CoreInstance.{CoreInstance}
use Rattle.pc_inline_state.specs.declared.frame.CoreInstance.TheVariants as instance
use Rattle.pc_inline_state.specs.declared.frame.Frame.{Frame}

-- an item, if it is of a kind
abbrev pub known_of_kind : CoreKind → CoreKind × CoreId → Option CoreItem
known_of_kind k x = if same_kind k x.0 then Some (item.Known x.1) else None

-- an entity of a core instance, if it is of a kind
abbrev pub entity_of_kind : InstanceId → CoreKind → EntityIndex → Option CoreItem
entity_of_kind i k e = if same_kind k (index_kind e) then Some (item.Entity i e) else None

-- the exports of a module type; another type has none
abbrev pub module_exports : DeclType → List (List ℕ × CoreEntity)
module_exports (entry.Module imports exports) = exports
module_exports e = []

-- an export of an entry that is a module type, by its place among them
abbrev pub module_export : TypeTable → (entry place : ℕ) → Option (List ℕ × CoreEntity)
module_export t n i = option_and_then (λ e. slice_get (module_exports e) i) (slice_get t.types n)

-- an export of a host module, if it is of a kind
abbrev pub named_of_kind : TypeTable → InstanceId → (entry : ℕ) → CoreKind → (place : ℕ) → Option CoreItem
named_of_kind t i n k place =
    option_and_then (λ (e : List ℕ × CoreEntity). if same_kind k (kind_of e.1) then Some (item.Named i n place) else None)
    (module_export t n place)

module _ (t : TypeTable) (ms : List ModuleRecord) where
  -- what a core instance has under a name, which has this number, if it is of a kind
  abbrev pub export_item : CoreKind → Atom → (name : List ℕ) → CoreInstance → Option CoreItem
  export_item k n name (instance.Made i m) =
      option_and_then (entity_of_kind i k) (option_and_then (λ (r : ModuleRecord). export_of r name) (slice_get ms m.0))
  export_item k n name (instance.Host i entry) = option_and_then (named_of_kind t i entry k) (export_place t entry name)
  export_item k n name (instance.Bag xs) = option_and_then (known_of_kind k) (numbered_value n xs)

  -- what is given for an import, whose module name and name have these numbers: the item of its name and kind in the
  -- argument of its module name
  abbrev pub argument_item : Frame → List (Atom × ℕ) → (m n : Atom) → (name : List ℕ) → CoreKind → Option CoreItem
  argument_item f args m n name k =
      option_and_then (λ i. option_and_then (export_item k n name) (slice_get f.core_instances i))
      (numbered_value m args)
