-- What numbers are looked up in: the types builder, the graph, and the tables of what items are.
use Rattle.std.specs.Prelude.{◌≡◌, ◌<◌, ℕ, true, List, length, Some, slice_get}
use Rattle.pc_entity.specs.declared.string_pool.Atom.{Atom}
use Rattle.pc_entity.specs.Lists.{Kept}
use Rattle.pc_dfg.specs.declared.ids.AdapterId.{AdapterId}
use Rattle.pc_dfg.specs.declared.ids.InstanceId.{InstanceId}
use Rattle.pc_types_lists.specs.Types.{Types}
use Rattle.pc_types_lists.specs.Types as builder
use Rattle.pc_numbers.specs.declared.component_entity.StaticModuleIndex.{StaticModuleIndex}
use Rattle.pc_numbers.specs.declared.entity_index.EntityIndex.{EntityIndex}
use Rattle.pc_numbers.specs.declared.module_entity.ModuleInternedTypeIndex.{ModuleInternedTypeIndex}
use Rattle.pc_numbers.specs.declared.runtime.RuntimeImportIndex.{RuntimeImportIndex}
use Rattle.pc_numbers.specs.declared.runtime.TrampolineIndex.{TrampolineIndex}
use Rattle.pc_types.specs.declared.intrinsic.UnsafeIntrinsic.{UnsafeIntrinsic}
use Rattle.pc_types.specs.declared.module_record.ModuleRecord.{ModuleRecord}
use Rattle.pc_types.specs.declared.parsed.CoreKind.{CoreKind}
use Rattle.pc_types.specs.declared.parsed.TypeTable.{TypeTable}
use Rattle.pc_types.specs.IntrinsicType.{intrinsic_place}
use Rattle.pc_types.specs.TypeTree.{Path}
use Rattle.pc_types.specs.declared.parsed.CoreKind.TheVariants as core
use Rattle.pc_types.specs.Record.{has_entity, index_kind}
use Rattle.pc_info.specs.declared.core_def.ExportItem.TheVariants as item
use Rattle.pc_dfg.specs.declared.core_def.CoreDef.{CoreDef}
use Rattle.pc_dfg.specs.declared.core_def.CoreDef.TheVariants as def
use Rattle.pc_dfg.specs.declared.dfg.ComponentDfg.{ComponentDfg}
use Rattle.pc_dfg.specs.declared.instance.Instance.TheVariants as source
use Rattle.pc_dfg.specs.Grows as graph
use Rattle.pc_dfg.specs.Grows.{HasIntrinsic}
use Rattle.pc_local.specs.declared.item.Translation.{Translation}
use Rattle.pc_inline_names.specs.Named.{Named}
use Rattle.pc_inline_state.specs.declared.closure.Closure.{Closure}
use Rattle.pc_inline_state.specs.declared.definition.Definition.{Definition}
use Rattle.pc_inline_state.specs.declared.state.Member.{Member}
use Rattle.pc_inline_state.specs.declared.state.State.{State}
use Rattle.pc_inline_state.specs.Fits.{FitsBefore}

-- the types builder, the graph so far, and the tables: core items, definitions, what components captured, what
-- instances export by the numbers of their names, the paths to host items, the bodies of the program, its type table,
-- and its names
pub record Tables : Type 0 where
  pub types : Types
  pub graph : ComponentDfg
  pub cores : List CoreDef
  pub definitions : List Definition
  pub closures : List Closure
  pub instances : List (List (Atom × Member))
  pub paths : List Path
  pub bodies : List Translation
  pub table : TypeTable
  pub names : Named

-- those of a state
abbrev pub tables_of : State → Tables
tables_of st = record {
  types = st.types;
  graph = st.graph;
  cores = st.cores;
  definitions = st.definitions;
  closures = st.closures;
  instances = st.instances;
  paths = st.paths.held;
  bodies = st.bodies.now;
  table = st.table.now;
  names = st.names.now;
}

-- each number still names what it named, and resource numbers that fit now fitted
pub record Keeps (old new : Tables) : Type 0 where
  pub types : builder.KeepsTypes old.types new.types
  pub graph : graph.Grows old.graph new.graph
  pub fits : FitsBefore old.graph new.graph
  pub cores : Kept old.cores new.cores
  pub definitions : Kept old.definitions new.definitions
  pub closures : Kept old.closures new.closures
  pub instances : Kept old.instances new.instances
  pub paths : Kept old.paths new.paths
  pub bodies : new.bodies ≡ old.bodies
  pub table : new.table ≡ old.table
  pub names : new.names ≡ old.names

-- the core instance is made of a module of the host
pub record IsHostInstance (g : ComponentDfg) (i : InstanceId) : Type 0 where
  pub import : RuntimeImportIndex
  pub arguments : List (List ℕ × List (List ℕ × CoreDef))
  pub made : slice_get g.instances i.0 ≡ Some (source.Import import arguments)

-- Where the core modules that were handed in have these records.
module _ (ms : List ModuleRecord) where
  -- the core instance is made of a module that has the entity
  pub record HasEntity (g : ComponentDfg) (i : InstanceId) (e : EntityIndex) : Type 0 where
    pub core_module : StaticModuleIndex
    pub arguments : List CoreDef
    pub module_record : ModuleRecord
    pub made : slice_get g.instances i.0 ≡ Some (source.Static core_module arguments)
    pub handed_in : slice_get ms core_module.0 ≡ Some module_record
    pub has : has_entity module_record e ≡ true

  -- a definition that is a core item of a kind
  pub data IsItem (g : ComponentDfg) : CoreKind → CoreDef → Type 0 where
    is_entity : {k : CoreKind} {i : InstanceId} {e : EntityIndex} → index_kind e ≡ k → HasEntity g i e
        → IsItem g k (def.Export (record { instance = i; item = item.Index e }))
    is_named : {k : CoreKind} {i : InstanceId} {name : List ℕ} → IsHostInstance g i
        → IsItem g k (def.Export (record { instance = i; item = item.Name name }))
    is_trampoline : {t : TrampolineIndex} → t.0 < length g.trampolines → IsItem g core.Func (def.Trampoline t)
    -- an intrinsic has the signature that the graph has for it, so one signature wherever it is used
    is_intrinsic : {s : ModuleInternedTypeIndex} {i : UnsafeIntrinsic} → HasIntrinsic g (intrinsic_place i) s
        → IsItem g core.Func (def.UnsafeIntrinsic s i)
    is_adapter : {a : AdapterId} → a.0 < length g.adapters → IsItem g core.Func (def.Adapter a)
