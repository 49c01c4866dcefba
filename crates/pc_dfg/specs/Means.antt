-- What the definitions of a graph stand for: core values, in which the numbers of types and core signatures stand as
-- marks. A graph stands for what follows from its entries by finitely many look-ups, so no order is presumed.
use Rattle.std.specs.Prelude.{◌≡◌, ℕ, List, [], ◌∷◌, Bool, Option, None, Some, option_map, slice_get}
use Rattle.pc_dfg.specs.declared.ids.AdapterId.{AdapterId}
use Rattle.pc_numbers.specs.declared.entity_index.EntityIndex.{EntityIndex}
use Rattle.pc_numbers.specs.declared.module_entity.MemoryIndex.{MemoryIndex}
use Rattle.pc_numbers.specs.declared.module_entity.ModuleInternedTypeIndex.{ModuleInternedTypeIndex}
use Rattle.pc_numbers.specs.declared.runtime.RuntimeComponentInstanceIndex.{RuntimeComponentInstanceIndex}
use Rattle.pc_numbers.specs.declared.runtime.TrampolineIndex.{TrampolineIndex}
use Rattle.pc_types.specs.declared.intrinsic.UnsafeIntrinsic.{UnsafeIntrinsic}
use Rattle.pc_types.specs.declared.trampoline.TrampolineKind.{TrampolineKind}
use Rattle.pc_types.specs.IntrinsicType.{intrinsic_place}
use Rattle.pc_types.specs.TypeTree.{Path}
use Rattle.pc_spec_plan.specs.CoreValue as value
use Rattle.pc_spec_plan.specs.CoreValue.{CoreValue, Options, DataModel, MaybeValue, Parts, Part}
use Rattle.pc_spec_plan.specs.Machine.{with_numbers}
use Rattle.pc_spec_plan.specs.PlanView as plan
use Rattle.pc_trampoline.specs.declared.part.Mark.{Mark}
use Rattle.pc_trampoline.specs.declared.part.Mark.TheVariants as mark
use Rattle.pc_info.specs.Definitions.{item_view}
use Rattle.pc_info.specs.Modules.{function_mark}
use Rattle.pc_dfg.specs.declared.adapter.Adapter.{Adapter}
use Rattle.pc_dfg.specs.declared.adapter.AdapterOptions.{AdapterOptions}
use Rattle.pc_dfg.specs.declared.adapter.DataModel.{DataModel as SideModel}
use Rattle.pc_dfg.specs.declared.adapter.DataModel.TheVariants as side
use Rattle.pc_dfg.specs.declared.core_def.CoreDef.{CoreDef}
use Rattle.pc_dfg.specs.declared.core_def.CoreDef.TheVariants as def
use Rattle.pc_dfg.specs.declared.core_def.CoreExport.{CoreExport}
use Rattle.pc_dfg.specs.declared.dfg.ComponentDfg.{ComponentDfg}
use Rattle.pc_dfg.specs.declared.options.CanonicalOptions.{CanonicalOptions}
use Rattle.pc_dfg.specs.Numbers.{SignedTrampoline, trampoline_entry, options_entry, memory_def, slots_of}

-- the path of a host item, by number
abbrev pub HasPath : ComponentDfg → ℕ → Path → Type 0
HasPath g r path = slice_get g.imports r ≡ Some (record { 0 = path.import }, path.names)

mutual
  -- the value of a definition
  pub data Means (g : ComponentDfg) : CoreDef → CoreValue Mark → Type 0 where
    means_export : {e : CoreExport EntityIndex}
        → Means g (def.Export e) (value.exported e.instance.0 (item_view e.item))
    means_flags : {c : RuntimeComponentInstanceIndex} → Means g (def.InstanceFlags c) (value.flags c.0)
    means_trampoline : {t : TrampolineIndex} {x : SignedTrampoline} {v : CoreValue Mark}
        → slice_get g.trampolines t.0 ≡ Some x → MeansTrampoline g (trampoline_entry x) v
        → Means g (def.Trampoline t) v
    means_intrinsic : {s : ModuleInternedTypeIndex} {i : UnsafeIntrinsic}
        → Means g (def.UnsafeIntrinsic s i) (value.intrinsic (intrinsic_place i))
    means_adapter : {a : AdapterId} {x : Adapter} {lift lower : Options Mark} {callee : CoreValue Mark}
        → slice_get g.adapters a.0 ≡ Some x → MeansSide g x.lift_options lift → MeansSide g x.lower_options lower
        → Means g x.func callee
        → Means g (def.Adapter a)
        (value.adapter (function_mark x.lift_ty) lift (function_mark x.lower_ty) lower callee)

  -- the value of a trampoline: what a helper's symbol says belongs to it
  pub data MeansTrampoline (g : ComponentDfg) : plan.TrampolineEntry Mark → CoreValue Mark → Type 0 where
    means_lowered : {r o : ℕ} {s ty : Mark} {path : Path} {v : Options Mark} → HasPath g r path → MeansOptions g o v
        → MeansTrampoline g (plan.lowers r s ty o) (value.lowered path ty v)
    means_builtin : {k : TrampolineKind} {symbol : List ℕ} {c : ℕ} {ps : List (plan.TrampolinePart Mark)}
        {vs : Parts Mark} → MeansParts g ps vs
        → MeansTrampoline g (plan.builtin k symbol c ps) (value.builtin k c vs)
    means_helper : {k : TrampolineKind} {symbol : List ℕ} {ps : List (plan.TrampolinePart Mark)} {vs : Parts Mark}
        → MeansParts g ps vs → MeansTrampoline g (plan.helper k symbol ps) (value.helper k (with_numbers symbol vs))

  -- the values of a trampoline's parts
  pub data MeansParts (g : ComponentDfg) : List (plan.TrampolinePart Mark) → Parts Mark → Type 0 where
    means_no_parts : MeansParts g [] value.no_parts
    means_and_part : {p : plan.TrampolinePart Mark} {ps : List (plan.TrampolinePart Mark)} {v : Part Mark}
        {vs : Parts Mark} → MeansPart g p v → MeansParts g ps vs → MeansParts g (p ∷ ps) (value.and_part v vs)

  -- the value of one of them
  pub data MeansPart (g : ComponentDfg) : plan.TrampolinePart Mark → Part Mark → Type 0 where
    means_mark : {m : Mark} → MeansPart g (plan.mark m) (value.mark_part m)
    means_number : {n : ℕ} → MeansPart g (plan.number n) (value.number_part n)
    means_flag : {b : Bool} → MeansPart g (plan.flag b) (value.flag_part b)
    means_slot_part : {k : plan.SlotKind} {n : Option ℕ} {v : MaybeValue Mark} → MeansSlot g k n v
        → MeansPart g (plan.slot k n) (value.value_part v)
    means_options_part : {o : ℕ} {v : Options Mark} → MeansOptions g o v
        → MeansPart g (plan.options o) (value.options_part v)

  -- the value of options, by number
  pub data MeansOptions (g : ComponentDfg) : ℕ → Options Mark → Type 0 where
    means_options : {o : ℕ} {x : CanonicalOptions} {v : Options Mark} → slice_get g.options o ≡ Some x
        → MeansEntry g (options_entry x) v → MeansOptions g o v

  -- the value of an entry of options
  pub data MeansEntry (g : ComponentDfg) : plan.PlanOptions Mark → Options Mark → Type 0 where
    means_entry : {e : plan.PlanOptions Mark} {callback post_return : MaybeValue Mark} {model : DataModel Mark}
        → MeansSlot g plan.callback e.callback callback → MeansSlot g plan.post_return e.post_return post_return
        → MeansModel g e.model model
        → MeansEntry g e
        (value.options e.component_instance e.encoding e.is_async e.signature callback post_return model)

  -- the values of memory and realloc
  pub data MeansModel (g : ComponentDfg) : plan.ModelEntry → DataModel Mark → Type 0 where
    means_gc : MeansModel g plan.gc value.gc
    means_linear : {m r : Option ℕ} {memory realloc : MaybeValue Mark} → MeansSlot g plan.memory m memory
        → MeansSlot g plan.realloc r realloc → MeansModel g (plan.linear m r) (value.linear memory realloc)

  -- the value in a slot, which may be left out
  pub data MeansSlot (g : ComponentDfg) : plan.SlotKind → Option ℕ → MaybeValue Mark → Type 0 where
    means_no_slot : {k : plan.SlotKind} → MeansSlot g k None value.no_value
    means_slot : {k : plan.SlotKind} {n : ℕ} {d : CoreDef} {v : CoreValue Mark}
        → slice_get (slots_of g k) n ≡ Some d → Means g d v → MeansSlot g k (Some n) (value.a_value v)

  -- the value of the options of one side of an adapter, which hold definitions
  pub data MeansSide (g : ComponentDfg) : AdapterOptions → Options Mark → Type 0 where
    means_side : {x : AdapterOptions} {callback post_return : MaybeValue Mark} {model : DataModel Mark}
        → MeansMaybe g x.callback callback → MeansMaybe g x.post_return post_return
        → MeansSideModel g x.data_model model
        → MeansSide g x
        (value.options x.instance.0 x.string_encoding x.async_ (mark.Signature x.core_type) callback post_return model)

  -- the values of memory and realloc of a side: whether the memory is 64-bit is no part of them
  pub data MeansSideModel (g : ComponentDfg) : SideModel → DataModel Mark → Type 0 where
    means_side_gc : MeansSideModel g side.Gc value.gc
    means_side_linear : {m : Option (CoreExport MemoryIndex × Bool)} {r : Option CoreDef}
        {memory realloc : MaybeValue Mark} → MeansMaybe g (option_map (λ x. memory_def x.0) m) memory
        → MeansMaybe g r realloc → MeansSideModel g (side.LinearMemory m r) (value.linear memory realloc)

  -- the value of a definition that may be left out
  pub data MeansMaybe (g : ComponentDfg) : Option CoreDef → MaybeValue Mark → Type 0 where
    means_none : MeansMaybe g None value.no_value
    means_some : {d : CoreDef} {v : CoreValue Mark} → Means g d v → MeansMaybe g (Some d) (value.a_value v)
