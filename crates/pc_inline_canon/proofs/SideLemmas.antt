-- What the sides of an adapter hold: definitions of core items, which are held, and memories with their widths.
use Rattle.std.proofs.Common.{◌≡◌, ◌<◌, ◌++◌, Bool, List, length, Option, None, Some, All, sym, ap, subst, ◌∙◌}
use Rattle.std.specs.Prelude.{option_map, slice_get}
use Rattle.std.proofs.lemmas.List.Elements.{All-append, All-cons}
use Rattle.pc_numbers.specs.declared.module_entity.MemoryIndex.{MemoryIndex}
use Rattle.pc_numbers.specs.declared.runtime.RuntimeComponentInstanceIndex.{RuntimeComponentInstanceIndex}
use Rattle.pc_types.specs.declared.module_record.ModuleRecord.{ModuleRecord}
use Rattle.pc_types.specs.declared.parsed.CoreKind.{CoreKind}
use Rattle.pc_types.specs.declared.parsed.CoreKind.TheVariants as core
use Rattle.pc_types.specs.declared.parsed.TypeTable.{TypeTable}
use Rattle.pc_dfg.specs.declared.adapter.Adapter.{Adapter}
use Rattle.pc_dfg.specs.declared.adapter.AdapterOptions.{AdapterOptions}
use Rattle.pc_dfg.specs.declared.adapter.DataModel.{DataModel as SideModel}
use Rattle.pc_dfg.specs.declared.adapter.DataModel.TheVariants as side
use Rattle.pc_dfg.specs.declared.core_def.CoreDef.{CoreDef}
use Rattle.pc_dfg.specs.declared.core_def.CoreExport.{CoreExport}
use Rattle.pc_dfg.specs.declared.dfg.ComponentDfg.{ComponentDfg}
use Rattle.pc_dfg.specs.Held.{HasBegun, HeldAdapter, IsHeld}
use Rattle.pc_dfg.specs.Names.{if_any, in_adapter, in_side, in_side_model}
use Rattle.pc_dfg.specs.Numbers.{memory_def}
use Rattle.pc_dfg.proofs.AllLemmas.{all_none, all_one}
use Rattle.pc_inline_state.specs.declared.definition.CoreId.{CoreId}
use Rattle.pc_inline_state.specs.declared.definition.DataModel.{DataModel}
use Rattle.pc_inline_state.specs.declared.definition.DataModel.TheVariants as model
use Rattle.pc_inline_state.specs.declared.definition.Options.{Options}
use Rattle.pc_inline_state.specs.declared.state.State.{State}
use Rattle.pc_inline_state.specs.declared.instance_module.InstanceModule.{InstanceModule}
use Rattle.pc_inline_state.specs.Instances.{HasModelWidth, is_wide_in}
use Rattle.pc_inline_state.specs.Points.{IsSoundState}
use Rattle.pc_inline_state.specs.Slots.{IsThere, MaybeThere, ModelThere, OptionsThere}
use Rattle.pc_inline_state.specs.Tables.{IsItem, tables_of}
use Rattle.pc_inline_state.specs.Worlds.{HoldsItems, MaybeItem, ModelItems, SideItems}
use Rattle.pc_inline_state.specs.Sides.{IsDefinition, IsMemory, IsModel, IsSide}
use Rattle.pc_inline_canon.proofs.CoreInstanceLemmas.{item_held}
use Rattle.pc_inline_canon.proofs.SlotLemmas.{there_usable}

-- a memory that may be left out, as a definition
abbrev pub memory_held : Option (CoreExport MemoryIndex × Bool) → Option CoreDef
memory_held m = option_map (λ (x : CoreExport MemoryIndex × Bool). memory_def x.0) m

module _ (t : TypeTable) (ms : List ModuleRecord) (st : State) where
  -- what was left out, and what is there
  pub definition_none : (o : Option CoreId) → o ≡ None → IsDefinition t ms st o None
  unfolding IsDefinition
  definition_none o is = subst (λ x. IsDefinition t ms st x None) (sym is) tt

  pub definition_some : (o : Option CoreId) (id : CoreId) (d : CoreDef) → o ≡ Some id
      → slice_get st.cores id.0 ≡ Some d → IsDefinition t ms st o (Some d)
  unfolding IsDefinition
  definition_some o id d is at = subst (λ x. IsDefinition t ms st x (Some d)) (sym is) at

  -- a memory is a definition
  pub memory_definition : (o : Option CoreId) (m : Option (CoreExport MemoryIndex × Bool)) → IsMemory t ms st o m
      → IsDefinition t ms st o (memory_held m)
  unfolding IsMemory IsDefinition
  memory_definition None None is = tt
  memory_definition (Some id) (Some x) is = is.0
  memory_definition None (Some x) is = absurd is
  memory_definition (Some id) None is = absurd is

  -- no memory, and a memory with its width
  pub memory_none : (o : Option CoreId) → o ≡ None → IsMemory t ms st o None
  unfolding IsMemory
  memory_none o is = subst (λ x. IsMemory t ms st x None) (sym is) tt

  pub memory_some : (o : Option CoreId) (id : CoreId) (d : CoreDef) (m : CoreExport MemoryIndex) (is_wide : Bool)
      (x : InstanceModule) → o ≡ Some id → slice_get st.cores id.0 ≡ Some d → memory_def m ≡ d
      → slice_get st.runtime_instances.items m.instance.0 ≡ Some x → is_wide ≡ is_wide_in t ms x m.item
      → IsMemory t ms st o (Some (m, is_wide))
  unfolding IsMemory
  memory_some o id d m is_wide x is at same made wide =
      subst (λ y. IsMemory t ms st y (Some (m, is_wide))) (sym is)
      (at ∙ ap Some (sym same), record { instance_module = x; made = made; is = wide })

  -- the core instance of a memory has a module
  pub memory_within : IsSoundState t ms st → (id : CoreId) → IsThere ms (tables_of st) core.Memory id → (d : CoreDef)
      → slice_get st.cores id.0 ≡ Some d → (m : CoreExport MemoryIndex) → memory_def m ≡ d
      → m.instance.0 < length st.runtime_instances.items
  unfolding IsHeld
  memory_within sound id there d at m same =
      let item = there_usable ms (tables_of st) core.Memory id d there at in
      let held = item_held ms st.graph core.Memory (memory_def m)
      (subst (IsItem ms st.graph core.Memory) (sym same) item) in
      subst (λ n. m.instance.0 < n) (sym sound.instances.as_many) held

  -- where the values of a side lie
  pub model_gc : (w : DataModel) → w ≡ model.Gc → IsModel t ms st w side.Gc
  unfolding IsModel
  model_gc w is = subst (λ x. IsModel t ms st x side.Gc) (sym is) tt

  pub model_linear : (w : DataModel) (m r : Option CoreId) (memory : Option (CoreExport MemoryIndex × Bool))
      (realloc : Option CoreDef) → w ≡ model.LinearMemory m r → IsMemory t ms st m memory
      → IsDefinition t ms st r realloc → IsModel t ms st w (side.LinearMemory memory realloc)
  unfolding IsModel
  model_linear w m r memory realloc is first second =
      subst (λ x. IsModel t ms st x (side.LinearMemory memory realloc)) (sym is) (first, second)

  -- the definition of a core item that is there is an item of its kind
  maybe_items : (k : CoreKind) (o : Option CoreId) (d : Option CoreDef) → MaybeThere ms (tables_of st) k o
      → IsDefinition t ms st o d → MaybeItem ms st.graph k d
  unfolding IsDefinition MaybeItem
  maybe_items k None None there is = tt
  maybe_items k (Some id) (Some d) there is = there_usable ms (tables_of st) k id d there is
  maybe_items k None (Some d) there is = absurd is
  maybe_items k (Some id) None there is = absurd is

  model_items : (o : DataModel) (m : SideModel) → ModelThere ms (tables_of st) o → IsModel t ms st o m
      → ModelItems ms st.graph m
  unfolding IsModel ModelItems
  model_items model.Gc side.Gc there is = tt
  model_items (model.LinearMemory m r) (side.LinearMemory memory realloc) there is = (
    maybe_items core.Memory m (memory_held memory) there.0 (memory_definition m memory is.0),
    maybe_items core.Func r realloc there.1 is.1,
  )
  model_items model.Gc (side.LinearMemory memory realloc) there is = absurd is
  model_items (model.LinearMemory m r) side.Gc there is = absurd is

  -- a side holds items
  pub side_items : (o : Options) (x : AdapterOptions) → OptionsThere ms (tables_of st) o → IsSide t ms st o x
      → SideItems ms st.graph x
  side_items o x there is = record {
    callback = maybe_items core.Func o.callback x.callback there.callback is.callback;
    post_return = maybe_items core.Func o.post_return x.post_return there.post_return is.post_return;
    model = model_items o.data_model x.data_model there.model is.model;
  }

  -- its memory has its width
  model_wide : (o : DataModel) (m : SideModel) → IsModel t ms st o m → HasModelWidth t ms st.runtime_instances.items m
  unfolding IsModel IsMemory HasModelWidth
  model_wide model.Gc side.Gc is = tt
  model_wide (model.LinearMemory m r) (side.LinearMemory None realloc) is = tt
  model_wide (model.LinearMemory (Some id) r) (side.LinearMemory (Some x) realloc) is = is.0.1
  model_wide (model.LinearMemory None r) (side.LinearMemory (Some x) realloc) is = absurd is.0
  model_wide model.Gc (side.LinearMemory memory realloc) is = absurd is
  model_wide (model.LinearMemory m r) side.Gc is = absurd is

  pub side_wide : (o : Options) (x : AdapterOptions) → IsSide t ms st o x
      → HasModelWidth t ms st.runtime_instances.items x.data_model
  side_wide o x is = model_wide o.data_model x.data_model is.model

  -- its component instance has begun
  pub side_begun : (o : Options) (x : AdapterOptions) → OptionsThere ms (tables_of st) o → IsSide t ms st o x
      → HasBegun st.graph x.instance.0
  side_begun o x there is =
      subst (λ (n : RuntimeComponentInstanceIndex). HasBegun st.graph n.0) (sym is.component_instance)
      there.component_instance

-- an adapter that holds items in component instances that have begun is held
module _ (ms : List ModuleRecord) (g : ComponentDfg) where
  maybe_held : (k : CoreKind) (d : Option CoreDef) → MaybeItem ms g k d → All (IsHeld g) (if_any d)
  unfolding MaybeItem
  maybe_held k None item = all_none (IsHeld g)
  maybe_held k (Some d) item = all_one (IsHeld g) d (item_held ms g k d item)

  model_held : (m : SideModel) → ModelItems ms g m → All (IsHeld g) (in_side_model m)
  unfolding ModelItems
  model_held side.Gc items = all_none (IsHeld g)
  model_held (side.LinearMemory m r) items =
      All-append (IsHeld g) (if_any (memory_held m)) (if_any r) (maybe_held core.Memory (memory_held m) items.0)
      (maybe_held core.Func r items.1)

  side_held : (x : AdapterOptions) → SideItems ms g x → All (IsHeld g) (in_side x)
  side_held x items =
      All-append (IsHeld g) (if_any x.callback ++ if_any x.post_return) (in_side_model x.data_model)
      (All-append (IsHeld g) (if_any x.callback) (if_any x.post_return)
      (maybe_held core.Func x.callback items.callback) (maybe_held core.Func x.post_return items.post_return))
      (model_held x.data_model items.model)

  pub adapter_held : (x : Adapter) → HoldsItems ms g x → HasBegun g x.lift_options.instance.0
      → HasBegun g x.lower_options.instance.0 → HeldAdapter g x
  unfolding in_adapter
  adapter_held x items lift lower = record {
    lift = lift;
    lower = lower;
    defs = All-cons (IsHeld g) x.func (in_side x.lift_options ++ in_side x.lower_options)
        (item_held ms g core.Func x.func items.func)
        (All-append (IsHeld g) (in_side x.lift_options) (in_side x.lower_options)
        (side_held x.lift_options items.lift) (side_held x.lower_options items.lower));
  }
