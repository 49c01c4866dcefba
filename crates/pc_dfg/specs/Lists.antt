-- The lists of a graph, by name. What is said of each list alike is said once.
use Rattle.std.specs.Prelude.{ℕ, List}
use Rattle.pc_dfg.specs.declared.ids.AdapterModuleId.{AdapterModuleId}
use Rattle.pc_numbers.specs.declared.component_entity.StaticModuleIndex.{StaticModuleIndex}
use Rattle.pc_numbers.specs.declared.entity_index.EntityIndex.{EntityIndex}
use Rattle.pc_numbers.specs.declared.runtime.ExportIndex.{ExportIndex}
use Rattle.pc_numbers.specs.declared.runtime.ImportIndex.{ImportIndex}
use Rattle.pc_numbers.specs.declared.runtime.RuntimeImportIndex.{RuntimeImportIndex}
use Rattle.pc_types.specs.declared.types.ComponentExtern.{ComponentExtern}
use Rattle.pc_types.specs.declared.types.ComponentExternData.{ComponentExternData}
use Rattle.pc_spec_plan.specs.PlanView as plan
use Rattle.pc_dfg.specs.declared.adapter.Adapter.{Adapter}
use Rattle.pc_dfg.specs.declared.core_def.CoreDef.{CoreDef}
use Rattle.pc_dfg.specs.declared.dfg.ComponentDfg.{ComponentDfg}
use Rattle.pc_dfg.specs.declared.export.Export.{Export}
use Rattle.pc_dfg.specs.declared.instance.Instance.{Instance}
use Rattle.pc_dfg.specs.declared.instance.Resource.{Resource}
use Rattle.pc_dfg.specs.declared.instance.SideEffect.{SideEffect}
use Rattle.pc_dfg.specs.declared.options.CanonicalOptions.{CanonicalOptions}
use Rattle.pc_dfg.specs.Numbers.{SignedTrampoline, slots_of}

-- a name with the number of its export and its extern data
abbrev pub NamedExport : Type 0
NamedExport = List ℕ × (ExportIndex × ComponentExternData)

-- the lists
pub data ListName : Type 0 where
  import_types : ListName
  imports : ListName
  imported_resources : ListName
  slots : plan.SlotKind → ListName
  options : ListName
  trampolines : ListName
  adapters : ListName
  adapter_modules : ListName
  adapter_partitionings : ListName
  instances : ListName
  resources : ListName
  side_effects : ListName
  export_items : ListName
  exports : ListName

-- what an entry of a list is
abbrev pub EntryOf : ListName → Type 0
EntryOf import_types = List ℕ × ComponentExtern
EntryOf imports = ImportIndex × List (List ℕ)
EntryOf imported_resources = RuntimeImportIndex
EntryOf (slots k) = CoreDef
EntryOf options = CanonicalOptions
EntryOf trampolines = SignedTrampoline
EntryOf adapters = Adapter
EntryOf adapter_modules = StaticModuleIndex × List CoreDef
EntryOf adapter_partitionings = AdapterModuleId × EntityIndex
EntryOf instances = Instance
EntryOf resources = Resource
EntryOf side_effects = SideEffect
EntryOf export_items = Export
EntryOf exports = NamedExport

-- the entries of a list
abbrev pub entries_of : ComponentDfg → (l : ListName) → List (EntryOf l)
entries_of g import_types = g.import_types
entries_of g imports = g.imports
entries_of g imported_resources = g.imported_resources
entries_of g (slots k) = slots_of g k
entries_of g options = g.options
entries_of g trampolines = g.trampolines
entries_of g adapters = g.adapters
entries_of g adapter_modules = g.adapter_modules
entries_of g adapter_partitionings = g.adapter_partitionings
entries_of g instances = g.instances
entries_of g resources = g.resources
entries_of g side_effects = g.side_effects
entries_of g export_items = g.export_items
entries_of g exports = g.exports
