-- What all component instances share, against the world of the reading.
use Rattle.std.specs.Prelude.{◌≡◌, ◌<◌, ◌≤◌, ℕ, Bool, true, false, count_by, [], length, List, Option, None}
use Rattle.std.specs.Prelude.{Some, map, option_map, slice_get, All, Contains}
use Rattle.std.specs.List.{AllZip, list_any}
use Rattle.pc_entity.specs.Lists.{AreDistinct}
use Rattle.pc_types_lists.specs.Trees.{HasTree}
use Rattle.pc_types_lists.specs.Types.{Types}
use Rattle.pc_dfg.specs.declared.ids.OptionsId.{OptionsId}
use Rattle.pc_numbers.specs.declared.component_entity.StaticModuleIndex.{StaticModuleIndex}
use Rattle.pc_numbers.specs.declared.module_entity.MemoryIndex.{MemoryIndex}
use Rattle.pc_numbers.specs.declared.module_entity.ModuleInternedTypeIndex.{ModuleInternedTypeIndex}
use Rattle.pc_numbers.specs.declared.runtime.ImportIndex.{ImportIndex}
use Rattle.pc_numbers.specs.declared.runtime.ResourceIndex.{ResourceIndex}
use Rattle.pc_numbers.specs.declared.runtime.RuntimeImportIndex.{RuntimeImportIndex}
use Rattle.pc_numbers.specs.declared.runtime.TrampolineIndex.{TrampolineIndex}
use Rattle.pc_types.specs.declared.module_record.ModuleRecord.{ModuleRecord}
use Rattle.pc_types.specs.declared.parsed.CoreFuncSig.{CoreFuncSig}
use Rattle.pc_types.specs.declared.parsed.CoreKind.{CoreKind}
use Rattle.pc_types.specs.declared.parsed.CoreKind.TheVariants as core
use Rattle.pc_types.specs.declared.parsed.TypeTable.{TypeTable}
use Rattle.pc_types.specs.declared.type_index.TypeFuncIndex.{TypeFuncIndex}
use Rattle.pc_types.specs.declared.type_index.TypeModuleIndex.{TypeModuleIndex}
use Rattle.pc_types.specs.declared.types.ComponentExtern.{ComponentExtern}
use Rattle.pc_types.specs.declared.types.TypeDef.TheVariants as type
use Rattle.pc_types.specs.Table.{is_module}
use Rattle.pc_types.specs.TypeTree.{Identity, Path, TypeTree, tree_of}
use Rattle.pc_spec_plan.specs.CoreValue.{CoreValue}
use Rattle.pc_spec_plan.specs.Log.{Entry, declared, instances_of, map_entry, trace}
use Rattle.pc_spec_plan.specs.PlanView as plan
use Rattle.pc_spec_adapt.specs.Needs.{adapters_of}
use Rattle.pc_trampoline.specs.declared.part.Mark.TheVariants as mark
use Rattle.pc_parsed.specs.Mark.{Mark, of_type}
use Rattle.pc_spec_reading.specs.Asked.{is_declared, paths_needed, signature_of}
use Rattle.pc_spec_reading.specs.Nodes.{extern_data}
use Rattle.pc_spec_reading.specs.SameTypes.{same_path}
use Rattle.pc_spec_reading.specs.Types.{has_entry}
use Rattle.pc_spec_reading.specs.World.{AddedIntrinsic, HostImport, World, resources_declared}
use Rattle.pc_dfg.specs.declared.adapter.Adapter.{Adapter}
use Rattle.pc_dfg.specs.declared.adapter.AdapterOptions.{AdapterOptions}
use Rattle.pc_dfg.specs.declared.adapter.DataModel.{DataModel}
use Rattle.pc_dfg.specs.declared.adapter.DataModel.TheVariants as side
use Rattle.pc_dfg.specs.declared.core_def.CoreDef.{CoreDef}
use Rattle.pc_dfg.specs.declared.core_def.CoreDef.TheVariants as def
use Rattle.pc_dfg.specs.declared.core_def.CoreExport.{CoreExport}
use Rattle.pc_dfg.specs.declared.dfg.ComponentDfg.{ComponentDfg}
use Rattle.pc_dfg.specs.declared.export.Export.TheVariants as export
use Rattle.pc_dfg.specs.declared.instance.Resource.{Resource}
use Rattle.pc_dfg.specs.declared.options.CanonicalOptions.{CanonicalOptions}
use Rattle.pc_dfg.specs.declared.instance.Instance.TheVariants as source
use Rattle.pc_dfg.specs.declared.instance.SideEffect.{SideEffect}
use Rattle.pc_dfg.specs.Effects.{Argument, MeansEffect, host_arguments}
use Rattle.pc_dfg.specs.Grows.{HasIntrinsic}
use Rattle.pc_dfg.specs.Means.{HasPath}
use Rattle.pc_dfg.specs.Numbers.{SignedTrampoline, memory_def, slots_of}
pub use Rattle.pc_inline_state.specs.Fits.{path_of}
use Rattle.pc_inline_state.specs.Fits.{Fits}
use Rattle.pc_inline_state.specs.Stands.{CoreStands}
use Rattle.pc_inline_state.specs.Tables.{IsItem}
use Rattle.pc_inline_state.specs.Holds.{Holds, Numbered, number_of, whole_of}

-- a trampoline has the core signature of what is declared
abbrev pub IsSigned : Types → SignedTrampoline → CoreValue Mark → Type 0
IsSigned types x v = (s : CoreFuncSig) × (slice_get types.signatures x.0.0 ≡ Some s) × (signature_of v ≡ Some s)

-- the kind of what is in a slot
abbrev pub slot_kind : plan.SlotKind → CoreKind
slot_kind plan.memory = core.Memory
slot_kind plan.table = core.Table
slot_kind plan.realloc = core.Func
slot_kind plan.callback = core.Func
slot_kind plan.post_return = core.Func

-- what a side of an adapter, and an adapter, hold are items of their kinds
module _ (ms : List ModuleRecord) (g : ComponentDfg) where
  -- an item that may be left out
  unfoldable pub MaybeItem : CoreKind → Option CoreDef → Type 0
  MaybeItem k None = Unit {0}
  MaybeItem k (Some d) = IsItem ms g k d

  -- where the values of a side lie
  unfoldable pub ModelItems : DataModel → Type 0
  ModelItems side.Gc = Unit {0}
  ModelItems (side.LinearMemory memory realloc) =
      MaybeItem core.Memory (option_map (λ (x : CoreExport MemoryIndex × Bool). memory_def x.0) memory)
      × MaybeItem core.Func realloc

  -- a side
  pub record SideItems (x : AdapterOptions) : Type 0 where
    pub callback : MaybeItem core.Func x.callback
    pub post_return : MaybeItem core.Func x.post_return
    pub model : ModelItems x.data_model

  -- an adapter: its callee and both sides
  pub record HoldsItems (x : Adapter) : Type 0 where
    pub func : IsItem ms g core.Func x.func
    pub lift : SideItems x.lift_options
    pub lower : SideItems x.lower_options

-- a graph in which each definition is an item of its kind, where the modules that were handed in have these records
pub record HasItems (ms : List ModuleRecord) (g : ComponentDfg) : Type 0 where
  -- a module is given as many arguments as it imports, all of them core items
  pub modules : (i : ℕ) (m : StaticModuleIndex) (args : List CoreDef)
      → slice_get g.instances i ≡ Some (source.Static m args)
      → (r : ModuleRecord) × (slice_get ms m.0 ≡ Some r) × (length args ≡ length r.imports)
      × All (λ d. (k : CoreKind) × IsItem ms g k d) args
  pub slots : (k : plan.SlotKind) (n : ℕ) (d : CoreDef) → slice_get (slots_of g k) n ≡ Some d
      → IsItem ms g (slot_kind k) d
  -- and so is a module of the host
  pub hosts : (i : ℕ) (r : RuntimeImportIndex) (args : List (List ℕ × List (List ℕ × CoreDef)))
      → slice_get g.instances i ≡ Some (source.Import r args)
      → All (λ (a : Argument). (k : CoreKind) × IsItem ms g k a.1.1) (host_arguments args)
  pub destructors : (n : ℕ) (x : Resource) (d : CoreDef) → slice_get g.resources n ≡ Some x → x.dtor ≡ Some d
      → IsItem ms g core.Func d
  pub adapters : (n : ℕ) (x : Adapter) → slice_get g.adapters n ≡ Some x → HoldsItems ms g x
  pub exports : (n : ℕ) (ty : TypeFuncIndex) (o : OptionsId) (d : CoreDef)
      → slice_get g.export_items n ≡ Some (export.LiftedFunction ty d o) → IsItem ms g core.Func d
  -- a module that is exported was handed in
  pub statics : (n ty : ℕ) (m : StaticModuleIndex) → slice_get g.export_items n ≡ Some (export.ModuleStatic ty m)
      → m.0 < length ms

-- a graph whose adapters have no modules yet; it has a place for each unsafe intrinsic
pub record IsPlain (g : ComponentDfg) : Type 0 where
  pub adapter_modules : g.adapter_modules ≡ []
  pub adapter_partitionings : g.adapter_partitionings ≡ []
  pub unsafe_intrinsics : length g.unsafe_intrinsics ≡ 21

-- a module type of the table is held under a number
pub record HoldsModule (types : Types) (t : TypeTable) (g : ComponentDfg) (ty : ℕ) : Type 0 where
  pub there : has_entry t is_module ty ≡ true
  pub known : List (ℕ × Identity)
  pub component_instance : ℕ
  pub tree : TypeTree
  pub is : tree_of known component_instance t ty ≡ Some tree
  pub number : TypeModuleIndex
  pub holds : (who : ResourceIndex → Identity) → Fits g who → HasTree types who (type.Module number) tree

-- the builder holds the signatures that the options of a graph name
pub record HoldsTypes (types : Types) (t : TypeTable) (g : ComponentDfg) : Type 0 where
  pub options : (k : ℕ) (x : CanonicalOptions) → slice_get g.options k ≡ Some x
      → x.core_type.0 < length types.signatures
  -- and the type of each handed-in module that is exported, which is a module type of the table
  pub modules : (n ty : ℕ) (m : StaticModuleIndex) → slice_get g.export_items n ≡ Some (export.ModuleStatic ty m)
      → HoldsModule types t g ty

-- a graph that exports nothing yet
pub record HasNoExports (g : ComponentDfg) : Type 0 where
  pub exports : g.exports ≡ []
  pub items : g.export_items ≡ []

-- no path stands twice, and each begins at an import; the numbers of those that are used are those that they have in
-- the graph
pub record AreUsed (g : ComponentDfg) (paths : List Path) (used : List (Option RuntimeImportIndex)) : Type 0 where
  pub room : length used ≡ length paths
  pub distinct : AreDistinct paths
  pub imports : (p : ℕ) (path : Path) → slice_get paths p ≡ Some path → path.import < length g.import_types
  pub numbers : (p : ℕ) (path : Path) (r : RuntimeImportIndex) → slice_get paths p ≡ Some path
      → slice_get used p ≡ Some (Some r) → HasPath g r.0 path
  pub others : (p : ℕ) (path : Path) → slice_get paths p ≡ Some path → slice_get used p ≡ Some None
      → list_any (same_path path) (map path_of g.imports) ≡ false
  -- the path of each host item that is used is among these
  pub known : (r : ℕ) (i : ImportIndex × List (List ℕ)) → slice_get g.imports r ≡ Some i → Contains paths (path_of i)

module _ (types : Types) (g : ComponentDfg) where
  -- a side effect does what an entry says
  pub record EffectStands (e : SideEffect) (x : Entry Mark) : Type 0 where
    pub numbered : Entry (Numbered types (Fits g))
    pub means : MeansEffect g e (map_entry (number_of types (Fits g)) numbered)
    pub is : map_entry (whole_of types (Fits g)) numbered ≡ x

  -- an import of the root is one that the host gives, its type under its number
  pub record ImportStands (i : List ℕ × ComponentExtern) (h : HostImport) : Type 0 where
    pub name : i.0 ≡ h.name.name
    pub extern_data : i.1.data_ ≡ extern_data h.name
    pub typed : Holds types (Fits g) (mark.Type_ i.1.ty) (of_type h.import_type)

  -- a trampoline is declared, and has the core signature of its lowering
  pub record IsDeclared (log : List (Entry Mark)) (k : ℕ) (x : SignedTrampoline) : Type 0 where
    pub value : CoreValue Mark
    pub entry : Contains log (declared value)
    pub stands : CoreStands types g (def.Trampoline (record { 0 = k })) value
    pub signed : IsSigned types x value

  -- what is declared is a trampoline
  pub record HasTrampoline (v : CoreValue Mark) : Type 0 where
    pub trampoline : TrampolineIndex
    pub stands : CoreStands types g (def.Trampoline trampoline) v

  -- the graph has a core signature for an intrinsic, which the builder holds: this one
  pub record IsIntrinsic (i : AddedIntrinsic) (s : ModuleInternedTypeIndex) : Type 0 where
    pub signed : HasIntrinsic g i.place s
    pub holds : slice_get types.signatures s.0 ≡ Some i.signature

  -- the graph has a core signature for each intrinsic that was added, and for no other
  pub record IntrinsicsStand (added : List AddedIntrinsic) : Type 0 where
    pub each : (i : AddedIntrinsic) → Contains added i → (s : ModuleInternedTypeIndex) × IsIntrinsic i s
    pub only : (place : ℕ) (s : ModuleInternedTypeIndex) → HasIntrinsic g place s
        → (i : AddedIntrinsic) × Contains added i × (i.place ≡ place) × IsIntrinsic i s

  -- the adapters are those that the log makes, in order
  pub record AdaptersStand (log : List (Entry Mark)) : Type 0 where
    pub as_many : length g.adapters ≡ length (adapters_of log)
    pub each : (k : ℕ) (v : CoreValue Mark) → slice_get (adapters_of log) k ≡ Some v
        → CoreStands types g (def.Adapter (record { 0 = k })) v

  -- the graph so far does what the log says
  pub record WorldStands (w : World) : Type 0 where
    pub effects : AllZip EffectStands g.side_effects (trace w.log)
    pub order : length (instances_of w.log) ≡ length g.instances
    pub are_declared : (k : ℕ) (x : SignedTrampoline) → slice_get g.trampolines k ≡ Some x → IsDeclared w.log k x
    pub trampolines : (v : CoreValue Mark) → Contains w.log (declared v) → HasTrampoline v
    pub few_trampolines : length g.trampolines ≤ count_by is_declared w.log
    pub import_types : AllZip ImportStands g.import_types w.imports
    pub imports : map path_of g.imports ≡ paths_needed w.log
    pub imported_resources : AllZip (λ (r : RuntimeImportIndex). HasPath g r.0) g.imported_resources w.imported_resources
    -- no two of them have one path
    pub resources_apart : AreDistinct w.imported_resources
    pub resources : length g.resources ≡ resources_declared w
    pub intrinsics : IntrinsicsStand w.intrinsics
    pub adapters : AdaptersStand w.log
    pub begun : w.begun ≡ g.num_runtime_component_instances
