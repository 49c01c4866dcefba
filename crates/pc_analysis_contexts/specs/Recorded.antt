-- Which function imports of core modules share a context in a graph, as it is recorded.
use Rattle.std.specs.Prelude.{◌≡◌, ◌<◌, ◌⊎◌, ℕ, true, List, length, map, Option, None, Some, slice_get}
use Rattle.pc_numbers.specs.declared.component_entity.StaticModuleIndex.{StaticModuleIndex}
use Rattle.pc_numbers.specs.declared.entity_index.EntityIndex.{EntityIndex}
use Rattle.pc_types.specs.declared.module_record.ModuleRecord.{ModuleRecord}
use Rattle.pc_types.specs.declared.parsed.CoreKind.TheVariants as kind
use Rattle.pc_types.specs.Record.{has_entity, import_place, imported}
use Rattle.pc_info.specs.declared.module.ModuleTranslation.{ModuleTranslation}
use Rattle.pc_info.specs.Modules.{module_view}
use Rattle.pc_spec_facts.specs.Recorded.{representative_in}
use Rattle.pc_spec_wiring.specs.Sharing.{ArePartitioned, AreRecorded}
use Rattle.pc_dfg.specs.declared.core_def.CoreDef.{CoreDef}
use Rattle.pc_dfg.specs.declared.dfg.ComponentDfg.{ComponentDfg}
use Rattle.pc_dfg.specs.declared.ids.AdapterModuleId.{AdapterModuleId}
use Rattle.pc_analysis_contexts.specs.Cores.{graph_cores, graph_home, is_exported_in}

-- each module has fewer imports than there are numbers
abbrev pub HaveFewImports : List ModuleRecord → Type 0
HaveFewImports records = (m : ℕ) (r : ModuleRecord) → slice_get records m ≡ Some r → length r.imports < 4294967295

module _ (g : ComponentDfg) (records : List ModuleRecord) where
  -- a place of an adapter is right: the module is there, and defines what the adapter is there
  pub record IsDefined (p : AdapterModuleId × EntityIndex) : Type 0 where
    pub made : StaticModuleIndex × List CoreDef
    pub core_module : ModuleRecord
    pub there : slice_get g.adapter_modules p.0.0 ≡ Some made
    pub held : slice_get records made.0.0 ≡ Some core_module
    pub own : import_place core_module p.1 ≡ None
    pub has : has_entity core_module p.1 ≡ true

  -- each place of an adapter is right
  abbrev pub AreDefined : Type 0
  AreDefined = (a : ℕ) (p : AdapterModuleId × EntityIndex) → slice_get g.adapter_partitionings a ≡ Some p → IsDefined p

  -- the representatives that are recorded of a module of this record are those of its function imports: two have one
  -- exactly where each core instance of the module is given functions of one context for them, and the host isn't given
  -- the module
  pub record RecordsContexts (number : ℕ) (r : ModuleRecord) (recorded : ℕ → Option ℕ) : Type 0 where
    pub representative : ℕ → ℕ
    pub partitioned : ArePartitioned graph_home (graph_cores g records) (is_exported_in g number) number
        (imported r kind.Func) representative
    pub exact : AreRecorded (imported r kind.Func) representative recorded

  -- the same of a whole module
  abbrev pub HasContexts : (number : ℕ) → ModuleTranslation → Type 0
  HasContexts m x = RecordsContexts m x.«module» (representative_in x)

-- a module is as it was, but for the representatives of its function imports
abbrev pub IsKept : (old new : ModuleTranslation) → Type 0
IsKept x y = y ≡ record x { imported_func_vmctx_representative = y.imported_func_vmctx_representative }

-- there are as many modules as there were, and each is as it was, but for the representatives of its function imports
pub record AreKept (old new : List ModuleTranslation) : Type 0 where
  pub count : length new ≡ length old
  pub each : (m : ℕ) (x y : ModuleTranslation) → slice_get old m ≡ Some x → slice_get new m ≡ Some y → IsKept x y

-- the records of modules
abbrev pub records_of : List ModuleTranslation → List ModuleRecord
records_of modules = map module_view modules

-- contexts are recorded of each module
abbrev pub AreAllRecorded : ComponentDfg → (old new : List ModuleTranslation) → Type 0
AreAllRecorded g old new =
    (m : ℕ) (y : ModuleTranslation) → slice_get new m ≡ Some y → HasContexts g (records_of old) m y

-- each module is as it was, or contexts are recorded of it
abbrev pub MayBeRecorded : ComponentDfg → (old new : List ModuleTranslation) → Type 0
MayBeRecorded g old new =
    (m : ℕ) (x y : ModuleTranslation) → slice_get old m ≡ Some x → slice_get new m ≡ Some y
    → (y ≡ x) ⊎ HasContexts g (records_of old) m y
