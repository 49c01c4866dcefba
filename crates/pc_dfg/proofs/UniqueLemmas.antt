-- A definition has one value.
use Rattle.std.proofs.Common.{◌≡◌, ℕ, List, Option, refl, ap, subst, sym, ◌∙◌}
use Rattle.std.proofs.lemmas.Option.{same_Some}
use Rattle.pc_numbers.specs.declared.runtime.ImportIndex.{ImportIndex}
use Rattle.pc_types.specs.TypeTree.{Path}
use Rattle.pc_spec_plan.specs.CoreValue as value
use Rattle.pc_spec_plan.specs.CoreValue.{CoreValue, Options, DataModel, MaybeValue, Parts, Part}
use Rattle.pc_spec_plan.specs.Machine.{with_numbers}
use Rattle.pc_spec_plan.specs.PlanView as plan
use Rattle.pc_trampoline.specs.declared.part.Mark.{Mark}
use Rattle.pc_trampoline.specs.declared.part.Mark.TheVariants as mark
use Rattle.pc_info.specs.Modules.{function_mark}
use Rattle.pc_dfg.specs.declared.adapter.AdapterOptions.{AdapterOptions}
use Rattle.pc_dfg.specs.declared.adapter.DataModel.{DataModel as SideModel}
use Rattle.pc_dfg.specs.declared.core_def.CoreDef.{CoreDef}
use Rattle.pc_dfg.specs.declared.dfg.ComponentDfg.{ComponentDfg}
use Rattle.pc_dfg.specs.Numbers.{trampoline_entry, options_entry}
use Rattle.pc_dfg.specs.Means.{HasPath}
use Rattle.pc_dfg.specs.Means.{Means, MeansTrampoline, MeansParts, MeansPart, MeansOptions, MeansEntry, MeansModel}
use Rattle.pc_dfg.specs.Means.{MeansSlot}
use Rattle.pc_dfg.specs.Means.{MeansSide, MeansSideModel, MeansMaybe, means_export, means_flags, means_trampoline}
use Rattle.pc_dfg.specs.Means.{means_intrinsic, means_adapter, means_lowered, means_builtin, means_helper}
use Rattle.pc_dfg.specs.Means.{means_no_parts}
use Rattle.pc_dfg.specs.Means.{means_and_part, means_mark, means_number, means_flag, means_slot_part}
use Rattle.pc_dfg.specs.Means.{means_options_part}
use Rattle.pc_dfg.specs.Means.{means_options, means_entry, means_gc, means_linear, means_no_slot, means_slot}
use Rattle.pc_dfg.specs.Means.{means_side}
use Rattle.pc_dfg.specs.Means.{means_side_gc, means_side_linear, means_none, means_some}

module _ (g : ComponentDfg) where
  -- a host item has one path
  pub path_unique : (r : ℕ) (p q : Path) → HasPath g r p → HasPath g r q → p ≡ q
  path_unique r p q a b =
      let same = same_Some {A = ImportIndex × List (List ℕ)} (record { 0 = p.import }, p.names)
      (record { 0 = q.import }, q.names) (sym a ∙ b) in
      λ i. record { import = (same i).0.0; names = (same i).1 }

  mutual
    -- a definition has one value
    pub means_unique : {d : CoreDef} {v w : CoreValue Mark} → Means g d v → Means g d w → v ≡ w
    means_unique means_export means_export = refl
    means_unique means_flags means_flags = refl
    means_unique (means_trampoline {x = x} p a) (means_trampoline {x = y} {v = w} q b) =
        let same = same_Some x y (sym p ∙ q) in
        trampoline_unique a (subst (λ z. MeansTrampoline g (trampoline_entry z) w) (sym same) b)
    means_unique means_intrinsic means_intrinsic = refl
    means_unique (means_adapter {x = x} p a b c)
        (means_adapter {x = y} {lift = lift} {lower = lower} {callee = callee} q d e f) =
        let same = same_Some x y (sym p ∙ q) in
        let first = side_unique a (subst (λ z. MeansSide g z.lift_options lift) (sym same) d) in
        let second = side_unique b (subst (λ z. MeansSide g z.lower_options lower) (sym same) e) in
        let third = means_unique c (subst (λ z. Means g z.func callee) (sym same) f) in
        λ i. value.adapter (function_mark (same i).lift_ty) (first i) (function_mark (same i).lower_ty) (second i)
        (third i)

    trampoline_unique : {e : plan.TrampolineEntry Mark} {v w : CoreValue Mark} → MeansTrampoline g e v
        → MeansTrampoline g e w → v ≡ w
    trampoline_unique (means_lowered {r = r} {ty = ty} {path = p} a b) (means_lowered {path = q} c d) =
        let path = path_unique r p q a c in
        let o = options_unique b d in
        λ i. value.lowered (path i) ty (o i)
    trampoline_unique (means_builtin {k = k} {c = c} a) (means_builtin b) =
        let ps = parts_unique a b in
        λ i. value.builtin k c (ps i)
    trampoline_unique (means_helper {k = k} {symbol = symbol} a) (means_helper b) =
        let ps = parts_unique a b in
        λ i. value.helper k (with_numbers symbol (ps i))

    parts_unique : {ps : List (plan.TrampolinePart Mark)} {v w : Parts Mark} → MeansParts g ps v
        → MeansParts g ps w → v ≡ w
    parts_unique means_no_parts means_no_parts = refl
    parts_unique (means_and_part a b) (means_and_part c d) =
        let first = part_unique a c in
        let rest = parts_unique b d in
        λ i. value.and_part (first i) (rest i)

    part_unique : {p : plan.TrampolinePart Mark} {v w : Part Mark} → MeansPart g p v → MeansPart g p w → v ≡ w
    part_unique means_mark means_mark = refl
    part_unique means_number means_number = refl
    part_unique means_flag means_flag = refl
    part_unique (means_slot_part a) (means_slot_part b) = ap value.value_part (slot_unique a b)
    part_unique (means_options_part a) (means_options_part b) = ap value.options_part (options_unique a b)

    -- options have one value
    pub options_unique : {o : ℕ} {v w : Options Mark} → MeansOptions g o v → MeansOptions g o w → v ≡ w
    options_unique (means_options {x = x} p a) (means_options {x = y} {v = w} q b) =
        let same = same_Some x y (sym p ∙ q) in
        entry_unique a (subst (λ z. MeansEntry g (options_entry z) w) (sym same) b)

    entry_unique : {e : plan.PlanOptions Mark} {v w : Options Mark} → MeansEntry g e v → MeansEntry g e w → v ≡ w
    entry_unique (means_entry {e = e} a b c) (means_entry d f h) =
        let callback = slot_unique a d in
        let post_return = slot_unique b f in
        let model = model_unique c h in
        λ i. value.options e.component_instance e.encoding e.is_async e.signature (callback i) (post_return i) (model i)

    model_unique : {e : plan.ModelEntry} {v w : DataModel Mark} → MeansModel g e v → MeansModel g e w → v ≡ w
    model_unique means_gc means_gc = refl
    model_unique (means_linear a b) (means_linear c d) =
        let memory = slot_unique a c in
        let realloc = slot_unique b d in
        λ i. value.linear (memory i) (realloc i)

    slot_unique : {k : plan.SlotKind} {n : Option ℕ} {v w : MaybeValue Mark} → MeansSlot g k n v
        → MeansSlot g k n w → v ≡ w
    slot_unique means_no_slot means_no_slot = refl
    slot_unique (means_slot {d = d} p a) (means_slot {d = e} {v = w} q b) =
        let same = same_Some d e (sym p ∙ q) in
        ap value.a_value (means_unique a (subst (λ z. Means g z w) (sym same) b))

    side_unique : {x : AdapterOptions} {v w : Options Mark} → MeansSide g x v → MeansSide g x w → v ≡ w
    side_unique (means_side {x = x} a b c) (means_side d e f) =
        let callback = maybe_unique a d in
        let post_return = maybe_unique b e in
        let model = side_model_unique c f in
        λ i. value.options x.instance.0 x.string_encoding x.async_ (mark.Signature x.core_type) (callback i)
        (post_return i) (model i)

    side_model_unique : {x : SideModel} {v w : DataModel Mark} → MeansSideModel g x v → MeansSideModel g x w → v ≡ w
    side_model_unique means_side_gc means_side_gc = refl
    side_model_unique (means_side_linear a b) (means_side_linear c d) =
        let memory = maybe_unique a c in
        let realloc = maybe_unique b d in
        λ i. value.linear (memory i) (realloc i)

    -- a definition that may be left out has one value
    pub maybe_unique : {d : Option CoreDef} {v w : MaybeValue Mark} → MeansMaybe g d v → MeansMaybe g d w → v ≡ w
    maybe_unique means_none means_none = refl
    maybe_unique (means_some a) (means_some b) = ap value.a_value (means_unique a b)
