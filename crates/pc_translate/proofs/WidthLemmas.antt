-- The flags of an adapter's memories say what is asked of the reading's adapter: whether its memories have 64 bits.
use Rattle.std.proofs.Common.{◌≡◌, ℕ, Bool, false, List, Option, None, Some, refl, sym, ap, subst, ◌∙◌}
use Rattle.std.specs.Prelude.{option_map, slice_get}
use Rattle.std.proofs.lemmas.Option.{same_Some}
use Rattle.pc_numbers.specs.declared.entity_index.EntityIndex.TheVariants as entity
use Rattle.pc_types.specs.declared.module_record.ModuleRecord.{ModuleRecord}
use Rattle.pc_spec_plan.specs.CoreValue as value
use Rattle.pc_spec_plan.specs.CoreValue.{CoreValue, MaybeValue, Options, exported, map_maybe, map_options, map_value}
use Rattle.pc_trampoline.specs.declared.part.Mark.{Mark}
use Rattle.pc_info.specs.Definitions.{item_view}
use Rattle.pc_info.specs.Mapped.{map_item}
use Rattle.pc_parsed.specs.Mark as reading
use Rattle.pc_spec_reading.specs.Reading.{Reading}
use Rattle.pc_spec_reading.specs.Widths.{is_wide}
use Rattle.pc_spec_adapt.specs.Asked.{model_of}
use Rattle.pc_spec_adapt.specs.Planned.{memory_in}
use Rattle.pc_dfg.specs.declared.adapter.Adapter.{Adapter}
use Rattle.pc_dfg.specs.declared.adapter.AdapterOptions.{AdapterOptions}
use Rattle.pc_dfg.specs.declared.adapter.DataModel.{DataModel}
use Rattle.pc_dfg.specs.declared.adapter.DataModel.TheVariants as side
use Rattle.pc_dfg.specs.declared.core_def.CoreDef.{CoreDef}
use Rattle.pc_dfg.specs.declared.core_def.CoreDef.TheVariants as def
use Rattle.pc_dfg.specs.declared.dfg.ComponentDfg.{ComponentDfg}
use Rattle.pc_dfg.specs.Means.{Means, MeansMaybe, MeansSide, MeansSideModel, means_export, means_none, means_side}
use Rattle.pc_dfg.specs.Means.{means_side_gc, means_side_linear, means_some}
use Rattle.pc_dfg.specs.Numbers.{memory_def}
use Rattle.pc_dfg.proofs.UniqueLemmas.{means_unique}
use Rattle.pc_adapt.specs.Imports.{Memory}
use Rattle.pc_adapt.specs.Planned as made
use Rattle.pc_adapt.specs.Planned.{wide_if}
use Rattle.pc_adapt.proofs.PlannedLemmas.{parts_of}
use Rattle.pc_inline.specs.Widths.{AreWide, IsWideModel, memory_value}
use Rattle.pc_translate.specs.Adapters.{is_wide_maybe, lift_width, lower_width}

-- the memory of an adapter's lift, if it has one
abbrev lift_memory : {τ : Type 0} → CoreValue τ → MaybeValue τ
lift_memory (value.adapter lift_type lift lower_type lower callee) = memory_in (model_of lift)
lift_memory v = value.no_value

-- and that of its lowering
abbrev lower_memory : {τ : Type 0} → CoreValue τ → MaybeValue τ
lower_memory (value.adapter lift_type lift lower_type lower callee) = memory_in (model_of lower)
lower_memory v = value.no_value

module _ (ms : List ModuleRecord) (r : Reading) where
  -- whether a memory has 64 bits, whatever marks values have
  abbrev is_wide_in : {τ : Type 0} → MaybeValue τ → Bool
  is_wide_in value.no_value = false
  is_wide_in (value.a_value (value.exported n item)) = is_wide ms r.imports r.log (exported n item)
  is_wide_in (value.a_value v) = false

  -- with the reading's marks it is what the reading says
  maybe_wide : (m : MaybeValue reading.Mark) → is_wide_maybe ms r m ≡ is_wide_in m
  maybe_wide value.no_value = refl
  maybe_wide (value.a_value (value.exported n item)) = refl
  maybe_wide (value.a_value (value.lowered path ty o)) = refl
  maybe_wide (value.a_value (value.builtin k c parts)) = refl
  maybe_wide (value.a_value (value.intrinsic n)) = refl
  maybe_wide (value.a_value (value.adapter ty o ty2 o2 v)) = refl
  maybe_wide (value.a_value (value.flags c)) = refl
  maybe_wide (value.a_value (value.helper k parts)) = refl

  lift_wide : (v : CoreValue reading.Mark) → lift_width ms r v ≡ is_wide_in (lift_memory v)
  lift_wide (value.adapter ty o ty2 o2 v) = maybe_wide (memory_in (model_of o))
  lift_wide (value.exported n item) = refl
  lift_wide (value.lowered path ty o) = refl
  lift_wide (value.builtin k c parts) = refl
  lift_wide (value.intrinsic n) = refl
  lift_wide (value.flags c) = refl
  lift_wide (value.helper k parts) = refl

  lower_wide : (v : CoreValue reading.Mark) → lower_width ms r v ≡ is_wide_in (lower_memory v)
  lower_wide (value.adapter ty o ty2 o2 v) = maybe_wide (memory_in (model_of o2))
  lower_wide (value.exported n item) = refl
  lower_wide (value.lowered path ty o) = refl
  lower_wide (value.builtin k c parts) = refl
  lower_wide (value.intrinsic n) = refl
  lower_wide (value.flags c) = refl
  lower_wide (value.helper k parts) = refl

  -- other marks change nothing
  module _ {τ υ : Type 0} (f : τ → υ) where
    wide_mapped : (m : MaybeValue τ) → is_wide_in (map_maybe f m) ≡ is_wide_in m
    wide_mapped value.no_value = refl
    wide_mapped (value.a_value (value.exported n item)) = refl
    wide_mapped (value.a_value (value.lowered path ty o)) = refl
    wide_mapped (value.a_value (value.builtin k c parts)) = refl
    wide_mapped (value.a_value (value.intrinsic n)) = refl
    wide_mapped (value.a_value (value.adapter ty o ty2 o2 v)) = refl
    wide_mapped (value.a_value (value.flags c)) = refl
    wide_mapped (value.a_value (value.helper k parts)) = refl

    side_wide_mapped : (o : Options τ)
        → is_wide_in (memory_in (model_of (map_options f o))) ≡ is_wide_in (memory_in (model_of o))
    side_wide_mapped (value.options c e a s callback post_return value.gc) = refl
    side_wide_mapped (value.options c e a s callback post_return (value.linear memory realloc)) = wide_mapped memory

    lift_mapped : (v : CoreValue τ) → is_wide_in (lift_memory (map_value f v)) ≡ is_wide_in (lift_memory v)
    lift_mapped (value.adapter ty o ty2 o2 v) = side_wide_mapped o
    lift_mapped (value.exported n item) = refl
    lift_mapped (value.lowered path ty o) = refl
    lift_mapped (value.builtin k c parts) = refl
    lift_mapped (value.intrinsic n) = refl
    lift_mapped (value.flags c) = refl
    lift_mapped (value.helper k parts) = refl

    lower_mapped : (v : CoreValue τ) → is_wide_in (lower_memory (map_value f v)) ≡ is_wide_in (lower_memory v)
    lower_mapped (value.adapter ty o ty2 o2 v) = side_wide_mapped o2
    lower_mapped (value.exported n item) = refl
    lower_mapped (value.lowered path ty o) = refl
    lower_mapped (value.builtin k c parts) = refl
    lower_mapped (value.intrinsic n) = refl
    lower_mapped (value.flags c) = refl
    lower_mapped (value.helper k parts) = refl

  module _ (g : ComponentDfg) where
    abbrev memory_as : Memory → CoreDef
    memory_as m = memory_def m.0

    -- a memory of the graph has the width that its flag tells
    one_wide : (d : CoreDef) (v : CoreValue Mark) (x : Memory) → d ≡ memory_as x → Means g d v
        → x.1 ≡ is_wide ms r.imports r.log (memory_value x.0) → is_wide_in (value.a_value v) ≡ x.1
    one_wide d v x is means flag =
        let here : Means g (memory_def x.0) (exported x.0.instance.0 (item_view (map_item entity.Memory x.0.item))) =
        means_export in
        let same = means_unique g (subst (λ y. Means g y v) is means) here in
        ap (λ w. is_wide_in (value.a_value w)) same ∙ sym flag

    memory_wide : {o : Option CoreDef} {v : MaybeValue Mark} (m : Option Memory) (realloc : Option CoreDef)
        → MeansMaybe g o v → o ≡ option_map memory_as m → IsWideModel ms r (side.LinearMemory m realloc)
        → is_wide_in v ≡ wide_if m
    unfolding IsWideModel
    memory_wide None realloc means_none is flag = refl
    memory_wide None realloc (means_some {d = d} means) is flag = absurd (let no : ⊥ = cc in no)
    memory_wide (Some x) realloc means_none is flag = absurd (let no : ⊥ = cc in no)
    memory_wide (Some x) realloc (means_some {d = d} {v = v} means) is flag =
        one_wide d v x (same_Some d (memory_as x) is) means flag

    model_wide : {d : DataModel} {m : value.DataModel Mark} → MeansSideModel g d m → IsWideModel ms r d
        → is_wide_in (memory_in m) ≡ made.is_wide d
    model_wide means_side_gc flag = refl
    model_wide (means_side_linear {m = m} {r = realloc} a b) flag = memory_wide m realloc a refl flag

    side_wide : {x : AdapterOptions} {o : Options Mark} → MeansSide g x o → IsWideModel ms r x.data_model
        → is_wide_in (memory_in (model_of o)) ≡ made.is_wide x.data_model
    side_wide (means_side a b m) flag = model_wide m flag

    -- so the flags of an adapter tell the widths of the reading's adapter, where it has each type twice
    module _ {τ : Type 0} (number : τ → Mark) (whole : τ → reading.Mark) (wide : AreWide ms r g) (k : ℕ) (x : Adapter)
        (at : slice_get g.adapters k ≡ Some x) (v : CoreValue τ)
        (means : Means g (def.Adapter (record { 0 = k })) (map_value number v)) where
      pub lift_told : made.is_wide x.lift_options.data_model ≡ lift_width ms r (map_value whole v)
      lift_told =
          let parts = parts_of g (record { 0 = k }) x at means refl in
          sym (side_wide parts.of_lift (wide.lift k x at))
          ∙ sym (ap (λ w. is_wide_in (lift_memory w)) parts.is)
          ∙ lift_mapped number v ∙ sym (lift_mapped whole v) ∙ sym (lift_wide (map_value whole v))

      pub lower_told : made.is_wide x.lower_options.data_model ≡ lower_width ms r (map_value whole v)
      lower_told =
          let parts = parts_of g (record { 0 = k }) x at means refl in
          sym (side_wide parts.of_lower (wide.lower k x at))
          ∙ sym (ap (λ w. is_wide_in (lower_memory w)) parts.is)
          ∙ lower_mapped number v ∙ sym (lower_mapped whole v) ∙ sym (lower_wide (map_value whole v))
