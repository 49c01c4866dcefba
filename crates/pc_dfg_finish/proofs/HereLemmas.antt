-- A run that only has more core instances and resources: slots, lowerings, options and trampolines stay.
use Rattle.std.proofs.Common.{◌≡◌, ◌≤◌, ℕ, List, [], ◌∷◌, length, drop, Option, None, Some, refl, ap}
use Rattle.std.proofs.Common.{◌∙◌, arith}
use Rattle.std.specs.Prelude.{option_and_then, option_map, slice_get, if◌then◌else◌}
use Rattle.pc_numbers.specs.declared.runtime.RuntimeComponentInstanceIndex.{RuntimeComponentInstanceIndex}
use Rattle.pc_numbers.specs.declared.runtime.RuntimeInstanceIndex.{RuntimeInstanceIndex}
use Rattle.pc_spec_plan.specs.CoreValue as value
use Rattle.pc_spec_plan.specs.CoreValue.{CoreValue, Parts}
use Rattle.pc_spec_plan.specs.Machine.{State, RuntimeInstance, DeclaredResource, chosen, is_counted, part_value}
use Rattle.pc_spec_plan.specs.Machine.{part_values}
use Rattle.pc_spec_plan.specs.Machine.{resolve, trampoline_value, with_numbers}
use Rattle.pc_spec_plan.specs.Machine as machine
use Rattle.pc_spec_plan.specs.PlanView as plan
use Rattle.pc_trampoline.specs.declared.part.Mark.{Mark}
use Rattle.pc_info.specs.declared.initializer.GlobalInitializer.{GlobalInitializer}
use Rattle.pc_info.specs.declared.module.ModuleTranslation.{ModuleTranslation}
use Rattle.pc_dfg.specs.declared.core_def.CoreDef.{CoreDef}
use Rattle.pc_dfg.specs.declared.dfg.ComponentDfg.{ComponentDfg}
use Rattle.pc_dfg.specs.Means.{Means}
use Rattle.pc_dfg.specs.Numbers.{slots_of}
use Rattle.pc_dfg_linearize.specs.declared.state.Finish.{Finish}
use Rattle.pc_dfg_linearize.specs.Numbers.{number_at}
use Rattle.pc_dfg_linearize.specs.Parts.{slot_numbers}
use Rattle.pc_dfg_linearize.specs.Plan.{Extends, counted_slots, slot_count}
use Rattle.pc_dfg_linearize.specs.Reached.{Filled, Resolves}

-- nothing is behind a whole list
pub drop_whole : {A : Type 0} (xs : List A) → drop (length xs) xs ≡ []
drop_whole [] = refl
drop_whole (x ∷ xs) = drop_whole xs

-- a state with other core instances and resources
abbrev pub state_with : State Mark → List (RuntimeInstance Mark) → List (DeclaredResource Mark) → State Mark
state_with s instances resources = record s { instances = instances; resources = resources }

module _ (p : plan.PlanView Mark) (s : State Mark) (is : List (RuntimeInstance Mark))
    (rs : List (DeclaredResource Mark))
  where
    abbrev then_ : State Mark
    then_ = state_with s is rs

    slots_here : (k : plan.SlotKind) → machine.slots_of then_ k ≡ machine.slots_of s k
    slots_here plan.memory = refl
    slots_here plan.table = refl
    slots_here plan.realloc = refl
    slots_here plan.callback = refl
    slots_here plan.post_return = refl

    part_here : (x : plan.TrampolinePart Mark) → part_value p then_ x ≡ part_value p s x
    part_here (plan.mark m) = refl
    part_here (plan.number n) = refl
    part_here (plan.flag b) = refl
    part_here (plan.slot k n) =
        ap (λ (vs : List (CoreValue Mark)). option_map value.value_part (chosen vs n)) (slots_here k)
    part_here (plan.options n) = refl

    parts_here : (xs : List (plan.TrampolinePart Mark)) → part_values p then_ xs ≡ part_values p s xs
    parts_here [] = refl
    parts_here (x ∷ xs) =
        let first = part_here x in
        let rest = parts_here xs in
        λ i. option_and_then (λ v. option_map (value.and_part v) (rest i)) (first i)

    trampoline_here : (e : plan.TrampolineEntry Mark) → trampoline_value p then_ e ≡ trampoline_value p s e
    trampoline_here (plan.lowers index signature ty o) = refl
    trampoline_here (plan.builtin k symbol c parts) =
        ap (λ (vs : Option (Parts Mark)). if is_counted p c then option_map (value.builtin k c) vs else None)
        (parts_here parts)
    trampoline_here (plan.helper k symbol parts) =
        ap (option_map (λ (ps : Parts Mark). value.helper k (with_numbers symbol ps))) (parts_here parts)

    resolve_here : (n : ℕ) → resolve p then_ (plan.trampoline n) ≡ resolve p s (plan.trampoline n)
    resolve_here n = by (slice_get p.trampolines n)
      where
        by : (o : Option (plan.TrampolineEntry Mark))
            → option_and_then (trampoline_value p then_) o ≡ option_and_then (trampoline_value p s) o
        by None = refl
        by (Some e) = trampoline_here e

-- a plan with other steps, core instances and resources
abbrev pub finish_with : Finish → List GlobalInitializer → List RuntimeInstanceIndex → ℕ
    → List RuntimeComponentInstanceIndex → Finish
finish_with f steps instances count resources = record f {
  steps = steps;
  instances = instances;
  resources = resources;
  counts = record f.counts { instances = count };
}

module _ (g : ComponentDfg) (f : Finish) (steps : List GlobalInitializer) (instances : List RuntimeInstanceIndex)
    (count : ℕ) (owners : List RuntimeComponentInstanceIndex) where
  abbrev more : Finish
  more = finish_with f steps instances count owners

  -- what has all of it has what was there before
  pub extends_before : (ms : List ModuleTranslation) (p : plan.PlanView Mark) → f.counts.instances ≤ count
      → length f.resources ≤ length owners → Extends g ms more p → Extends g ms f p
  extends_before ms p counts resources e = record {
    has = e.has;
    import_types = e.import_types;
    imports = e.imports;
    imported = e.imported;
    options = e.options;
    trampolines = e.trampolines;
    intrinsics = e.intrinsics;
    instances = let after = e.instances in omega arith;
    lowerings = e.lowerings;
    slots = by;
    resources = let after = e.resources in omega arith;
  }
    where
      by : (k : plan.SlotKind) → slot_count f k ≤ counted_slots p k
      by plan.memory = e.slots plan.memory
      by plan.table = e.slots plan.table
      by plan.realloc = e.slots plan.realloc
      by plan.callback = e.slots plan.callback
      by plan.post_return = e.slots plan.post_return

  module _ (s : State Mark) (is : List (RuntimeInstance Mark)) (rs : List (DeclaredResource Mark)) where
    -- slots and lowerings stay
    pub filled_here : length rs ≡ length owners → Filled g f s → Filled g more (state_with s is rs)
    filled_here resources filled = record {
      lowerings = filled.lowerings;
      slots = count_here;
      resources = resources;
      lowering = filled.lowering;
      slot = slot_here;
    }
      where
        count_here : (k : plan.SlotKind) → length (machine.slots_of (state_with s is rs) k) ≡ slot_count more k
        count_here plan.memory = filled.slots plan.memory
        count_here plan.table = filled.slots plan.table
        count_here plan.realloc = filled.slots plan.realloc
        count_here plan.callback = filled.slots plan.callback
        count_here plan.post_return = filled.slots plan.post_return

        slot_here : (k : plan.SlotKind) (i n : ℕ) (d : CoreDef) (v : CoreValue Mark)
            → number_at (slot_numbers more k) i ≡ Some n → slice_get (slots_of g k) i ≡ Some d → Means g d v
            → slice_get (machine.slots_of (state_with s is rs) k) n ≡ Some v
        slot_here plan.memory = filled.slot plan.memory
        slot_here plan.table = filled.slot plan.table
        slot_here plan.realloc = filled.slot plan.realloc
        slot_here plan.callback = filled.slot plan.callback
        slot_here plan.post_return = filled.slot plan.post_return

    -- options and trampolines stand for what they stood for
    pub resolves_here : (ms : List ModuleTranslation) → f.counts.instances ≤ count → length f.resources ≤ length owners
        → Resolves g ms f s → Resolves g ms more (state_with s is rs)
    resolves_here ms counts resources resolves = record {
      options = λ o n v p number means extends.
          resolves.options o n v p number means (extends_before ms p counts resources extends);
      trampoline = λ t n v p number means extends.
          resolve_here p s is rs n
          ∙ resolves.trampoline t n v p number means (extends_before ms p counts resources extends);
    }
