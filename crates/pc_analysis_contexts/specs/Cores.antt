-- The core instances of a graph, in the words of wiring: the modules of adapters stand behind all others, and an
-- adapter is an item of its module.
use Rattle.std.specs.Prelude.{ℕ, ◌+◌, Bool, false, ◌==◌, List, ◌++◌, length, map, Option, None, Some, slice_get}
use Rattle.std.specs.List.{list_any}
use Rattle.pc_numbers.specs.declared.component_entity.StaticModuleIndex.{StaticModuleIndex}
use Rattle.pc_numbers.specs.declared.entity_index.EntityIndex.{EntityIndex}
use Rattle.pc_types.specs.declared.module_record.ModuleRecord.{ModuleRecord}
use Rattle.pc_types.specs.IntrinsicType.{intrinsic_place}
use Rattle.pc_spec_plan.specs.CoreValue.{by_index}
use Rattle.pc_spec_wiring.specs.Origin.{Core, Given, an_item, an_end, of_record, of_host}
use Rattle.pc_spec_wiring.specs.Sharing.{Home, the_component}
use Rattle.pc_info.specs.Definitions.{item_view}
use Rattle.pc_dfg.specs.declared.core_def.CoreDef.{CoreDef}
use Rattle.pc_dfg.specs.declared.core_def.CoreDef.TheVariants as def
use Rattle.pc_dfg.specs.declared.dfg.ComponentDfg.{ComponentDfg}
use Rattle.pc_dfg.specs.declared.export.Export.{Export}
use Rattle.pc_dfg.specs.declared.export.Export.TheVariants as export
use Rattle.pc_dfg.specs.declared.ids.AdapterModuleId.{AdapterModuleId}
use Rattle.pc_dfg.specs.declared.instance.Instance.{Instance}
use Rattle.pc_dfg.specs.declared.instance.Instance.TheVariants as source

-- what a graph gives that is no item of a core instance. An adapter is only where it is in no module
pub data GraphEnd : Type 0 where
  flags : (component_instance : ℕ) → GraphEnd
  trampoline : (number : ℕ) → GraphEnd
  intrinsic : (place : ℕ) → GraphEnd
  lone_adapter : (number : ℕ) → GraphEnd

-- trampolines and intrinsics have the component's context; flags, and adapters that are in no module, have none
abbrev pub graph_home : GraphEnd → Option Home
graph_home (flags c) = None
graph_home (trampoline t) = Some the_component
graph_home (intrinsic i) = Some the_component
graph_home (lone_adapter a) = None

-- an adapter, as what is given: an item of its module, which stands behind this many core instances
abbrev pub adapter_in : (instances number : ℕ) → Option (AdapterModuleId × EntityIndex) → Given GraphEnd
adapter_in n a None = an_end (lone_adapter a)
adapter_in n a (Some p) = an_item (n + p.0.0) (by_index p.1)

-- a core instance of the module of a number, where modules have these records; what is no module of theirs can't be
-- seen through
abbrev pub core_in : (number : ℕ) → Option ModuleRecord → List (Given GraphEnd) → Core GraphEnd
core_in m None given = of_host
core_in m (Some r) given = of_record m r given

-- whether an export is a core module of this number
abbrev pub exports_static : (number : ℕ) → Export → Bool
exports_static m (export.ModuleStatic ty n) = n.0 == m
exports_static m item = false

module _ (g : ComponentDfg) where
  -- a definition, as what is given
  abbrev pub given_in : CoreDef → Given GraphEnd
  given_in (def.Export e) = an_item e.instance.0 (item_view e.item)
  given_in (def.InstanceFlags c) = an_end (flags c.0)
  given_in (def.Trampoline t) = an_end (trampoline t.0)
  given_in (def.UnsafeIntrinsic s i) = an_end (intrinsic (intrinsic_place i))
  given_in (def.Adapter a) = adapter_in (length g.instances) a.0 (slice_get g.adapter_partitionings a.0)

  module _ (records : List ModuleRecord) where
    -- a core instance of the graph
    abbrev pub instance_core : Instance → Core GraphEnd
    instance_core (source.Static m args) = core_in m.0 (slice_get records m.0) (map given_in args)
    instance_core (source.Import r args) = of_host

    -- that of a module of adapters, made or not
    abbrev pub module_core : StaticModuleIndex × List CoreDef → Core GraphEnd
    module_core x = core_in x.0.0 (slice_get records x.0.0) (map given_in x.1)

    -- the core instances of the graph by their numbers, and then those of the modules of adapters
    unfoldable pub graph_cores : List (Core GraphEnd)
    graph_cores = map instance_core g.instances ++ map module_core g.adapter_modules

  -- whether a core module is exported, at whatever depth
  abbrev pub is_exported_in : (number : ℕ) → Bool
  is_exported_in m = list_any (exports_static m) g.export_items
