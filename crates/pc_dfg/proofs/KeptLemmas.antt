-- A definition keeps its value as the graph grows.
use Rattle.std.proofs.Common.{ℕ, List, Option}
use Rattle.pc_spec_plan.specs.CoreValue.{CoreValue, Options, DataModel, MaybeValue, Parts, Part}
use Rattle.pc_spec_plan.specs.PlanView as plan
use Rattle.pc_trampoline.specs.declared.part.Mark.{Mark}
use Rattle.pc_dfg.specs.declared.adapter.AdapterOptions.{AdapterOptions}
use Rattle.pc_dfg.specs.declared.adapter.DataModel.{DataModel as SideModel}
use Rattle.pc_dfg.specs.declared.core_def.CoreDef.{CoreDef}
use Rattle.pc_dfg.specs.declared.dfg.ComponentDfg.{ComponentDfg}
use Rattle.pc_dfg.specs.Grows.{Grows}
use Rattle.pc_dfg.specs.Lists as list
use Rattle.pc_dfg.specs.Means.{Means, MeansTrampoline, MeansParts, MeansPart, MeansOptions, MeansEntry, MeansModel}
use Rattle.pc_dfg.specs.Means.{MeansSlot}
use Rattle.pc_dfg.specs.Means.{MeansSide, MeansSideModel, MeansMaybe, means_export, means_flags, means_trampoline}
use Rattle.pc_dfg.specs.Means.{means_intrinsic, means_adapter, means_lowered, means_builtin, means_helper}
use Rattle.pc_dfg.specs.Means.{means_no_parts}
use Rattle.pc_dfg.specs.Means.{means_and_part, means_mark, means_number, means_flag, means_slot_part}
use Rattle.pc_dfg.specs.Means.{means_options_part}
use Rattle.pc_dfg.specs.Means.{means_options, means_entry, means_gc, means_linear, means_no_slot, means_slot}
use Rattle.pc_dfg.specs.Means.{means_side}
use Rattle.pc_dfg.specs.Means.{means_side_gc, means_side_linear, means_none, means_some}
use Rattle.pc_dfg.proofs.GrowLemmas.{kept}

module _ (g h : ComponentDfg) (grows : Grows g h) where
  mutual
    -- a definition keeps its value
    pub means_kept : {d : CoreDef} {v : CoreValue Mark} → Means g d v → Means h d v
    means_kept means_export = means_export
    means_kept means_flags = means_flags
    means_kept (means_trampoline at m) = means_trampoline (kept g h grows list.trampolines _ _ at) (trampoline_kept m)
    means_kept means_intrinsic = means_intrinsic
    means_kept (means_adapter at lift lower callee) =
        means_adapter (kept g h grows list.adapters _ _ at) (side_kept lift) (side_kept lower) (means_kept callee)

    trampoline_kept : {e : plan.TrampolineEntry Mark} {v : CoreValue Mark} → MeansTrampoline g e v
        → MeansTrampoline h e v
    trampoline_kept (means_lowered path o) = means_lowered (kept g h grows list.imports _ _ path) (options_kept o)
    trampoline_kept (means_builtin ps) = means_builtin (parts_kept ps)
    trampoline_kept (means_helper ps) = means_helper (parts_kept ps)

    parts_kept : {ps : List (plan.TrampolinePart Mark)} {vs : Parts Mark} → MeansParts g ps vs → MeansParts h ps vs
    parts_kept means_no_parts = means_no_parts
    parts_kept (means_and_part p ps) = means_and_part (part_kept p) (parts_kept ps)

    part_kept : {p : plan.TrampolinePart Mark} {v : Part Mark} → MeansPart g p v → MeansPart h p v
    part_kept means_mark = means_mark
    part_kept means_number = means_number
    part_kept means_flag = means_flag
    part_kept (means_slot_part s) = means_slot_part (slot_kept s)
    part_kept (means_options_part o) = means_options_part (options_kept o)

    -- options keep their value
    pub options_kept : {o : ℕ} {v : Options Mark} → MeansOptions g o v → MeansOptions h o v
    options_kept (means_options at e) = means_options (kept g h grows list.options _ _ at) (entry_kept e)

    entry_kept : {e : plan.PlanOptions Mark} {v : Options Mark} → MeansEntry g e v → MeansEntry h e v
    entry_kept (means_entry callback post_return model) =
        means_entry (slot_kept callback) (slot_kept post_return) (model_kept model)

    model_kept : {e : plan.ModelEntry} {v : DataModel Mark} → MeansModel g e v → MeansModel h e v
    model_kept means_gc = means_gc
    model_kept (means_linear memory realloc) = means_linear (slot_kept memory) (slot_kept realloc)

    slot_kept : {k : plan.SlotKind} {n : Option ℕ} {v : MaybeValue Mark} → MeansSlot g k n v → MeansSlot h k n v
    slot_kept means_no_slot = means_no_slot
    slot_kept (means_slot {k = k} at m) = means_slot (kept g h grows (list.slots k) _ _ at) (means_kept m)

    side_kept : {x : AdapterOptions} {v : Options Mark} → MeansSide g x v → MeansSide h x v
    side_kept (means_side callback post_return model) =
        means_side (maybe_kept callback) (maybe_kept post_return) (side_model_kept model)

    side_model_kept : {x : SideModel} {v : DataModel Mark} → MeansSideModel g x v → MeansSideModel h x v
    side_model_kept means_side_gc = means_side_gc
    side_model_kept (means_side_linear memory realloc) = means_side_linear (maybe_kept memory) (maybe_kept realloc)

    -- a definition that may be left out keeps its value
    pub maybe_kept : {d : Option CoreDef} {v : MaybeValue Mark} → MeansMaybe g d v → MeansMaybe h d v
    maybe_kept means_none = means_none
    maybe_kept (means_some m) = means_some (means_kept m)
