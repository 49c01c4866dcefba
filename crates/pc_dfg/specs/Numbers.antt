-- The entries of a graph by number: trampolines, options and slots as a plan has them, over the numbers of the graph.
use Rattle.std.specs.Prelude.{List, map, option_map}
use Rattle.pc_numbers.specs.declared.entity_index.EntityIndex.TheVariants as entity
use Rattle.pc_numbers.specs.declared.module_entity.MemoryIndex.{MemoryIndex}
use Rattle.pc_numbers.specs.declared.module_entity.ModuleInternedTypeIndex.{ModuleInternedTypeIndex}
use Rattle.pc_numbers.specs.declared.module_entity.TableIndex.{TableIndex}
use Rattle.pc_numbers.specs.declared.runtime.RuntimeImportIndex.{RuntimeImportIndex}
use Rattle.pc_dfg.specs.declared.ids.CallbackId.{CallbackId}
use Rattle.pc_dfg.specs.declared.ids.MemoryId.{MemoryId}
use Rattle.pc_dfg.specs.declared.ids.OptionsId.{OptionsId}
use Rattle.pc_dfg.specs.declared.ids.PostReturnId.{PostReturnId}
use Rattle.pc_dfg.specs.declared.ids.ReallocId.{ReallocId}
use Rattle.pc_dfg.specs.declared.ids.TableId.{TableId}
use Rattle.pc_spec_plan.specs.PlanView as plan
use Rattle.pc_trampoline.specs.declared.part.Mark.{Mark}
use Rattle.pc_trampoline.specs.declared.part.Mark.TheVariants as mark
use Rattle.pc_trampoline.specs.declared.trampoline.Trampoline.{Trampoline}
use Rattle.pc_trampoline.specs.View.{Numbers, entry_by}
use Rattle.pc_dfg.specs.declared.core_def.CoreDef.{CoreDef}
use Rattle.pc_dfg.specs.declared.core_def.CoreDef.TheVariants as def
use Rattle.pc_dfg.specs.declared.core_def.CoreExport.{CoreExport}
use Rattle.pc_dfg.specs.declared.dfg.ComponentDfg.{ComponentDfg}
use Rattle.pc_dfg.specs.declared.options.CanonicalOptions.{CanonicalOptions}
use Rattle.pc_dfg.specs.declared.options.CanonicalOptionsDataModel.{CanonicalOptionsDataModel}
use Rattle.pc_dfg.specs.declared.options.CanonicalOptionsDataModel.TheVariants as model
use Rattle.pc_dfg.specs.Mapped.{map_export}

-- a graph's trampoline with its core signature
abbrev pub SignedTrampoline : Type 0
SignedTrampoline =
    ModuleInternedTypeIndex × Trampoline RuntimeImportIndex OptionsId MemoryId TableId CallbackId PostReturnId

-- the numbers of a graph; a lowering has that of its host item
abbrev pub graph_numbers : Numbers RuntimeImportIndex OptionsId MemoryId TableId CallbackId PostReturnId
graph_numbers = record {
  lowered = λ (r : RuntimeImportIndex). r.0;
  options = λ (o : OptionsId). o.0;
  memory = λ (m : MemoryId). m.0;
  table = λ (t : TableId). t.0;
  callback = λ (c : CallbackId). c.0;
  post_return = λ (p : PostReturnId). p.0;
}

-- a trampoline by its kind and its parts
abbrev pub trampoline_entry : SignedTrampoline → plan.TrampolineEntry Mark
trampoline_entry t = entry_by graph_numbers t.0 t.1

-- where values lie: in the heap, or in a memory with a realloc
abbrev pub model_entry : CanonicalOptionsDataModel → plan.ModelEntry
model_entry model.Gc = plan.gc
model_entry (model.LinearMemory memory realloc) =
    plan.linear (option_map (λ (m : MemoryId). m.0) memory) (option_map (λ (r : ReallocId). r.0) realloc)

-- the options of a lifted or lowered function
abbrev pub options_entry : CanonicalOptions → plan.PlanOptions Mark
options_entry o = record {
  component_instance = o.instance.0;
  encoding = o.string_encoding;
  is_async = o.async_;
  signature = mark.Signature o.core_type;
  callback = option_map (λ (c : CallbackId). c.0) o.callback;
  post_return = option_map (λ (p : PostReturnId). p.0) o.post_return;
  model = model_entry o.data_model;
}

-- a memory as a definition
abbrev pub memory_def : CoreExport MemoryIndex → CoreDef
memory_def e = def.Export (map_export entity.Memory e)

-- a table as a definition
abbrev pub table_def : CoreExport TableIndex → CoreDef
table_def e = def.Export (map_export entity.Table e)

-- the definitions in the slots of a kind
unfoldable pub slots_of : ComponentDfg → plan.SlotKind → List CoreDef
slots_of g plan.memory = map memory_def g.memories
slots_of g plan.table = map table_def g.tables
slots_of g plan.realloc = g.reallocs
slots_of g plan.callback = g.callbacks
slots_of g plan.post_return = g.post_returns
