-- A plan with one step more has the steps of its graph.
use Rattle.std.proofs.Common.{◌≡◌, ◌<◌, ◌++◌, ◌⊎◌, inl, inr, ℕ, List, [], ◌∷◌, length, map, All, Option, None, Some}
use Rattle.std.proofs.Common.{option_map, true, refl, sym, ap, subst, ◌∙◌}
use Rattle.std.specs.Option.{option_to_list}
use Rattle.std.specs.Prelude.{slice_get}
use Rattle.std.specs.List.{Contains, flat_map}
use Rattle.std.proofs.lemmas.List.{append-nil}
use Rattle.std.proofs.lemmas.List.Elements.{All-weaker}
use Rattle.pc_numbers.specs.declared.component_entity.StaticModuleIndex.{StaticModuleIndex}
use Rattle.pc_numbers.specs.declared.runtime.RuntimeComponentInstanceIndex.{RuntimeComponentInstanceIndex}
use Rattle.pc_numbers.specs.declared.runtime.RuntimeImportIndex.{RuntimeImportIndex}
use Rattle.pc_numbers.specs.declared.runtime.RuntimeInstanceIndex.{RuntimeInstanceIndex}
use Rattle.pc_spec_plan.specs.Counts.{makes_instance}
use Rattle.pc_spec_plan.specs.PlanView as plan
use Rattle.pc_info.specs.declared.initializer.GlobalInitializer.{GlobalInitializer}
use Rattle.pc_info.specs.declared.initializer.GlobalInitializer.TheVariants as init
use Rattle.pc_info.specs.declared.initializer.InstantiateModule.{InstantiateModule}
use Rattle.pc_info.specs.declared.initializer.InstantiateModule.TheVariants as plan_source
use Rattle.pc_info.specs.declared.initializer.Resource.{Resource as PlanResource}
use Rattle.pc_info.specs.Definitions.{def_view, initializer_view, source_view}
use Rattle.pc_dfg.specs.declared.core_def.CoreDef.{CoreDef}
use Rattle.pc_dfg.specs.declared.dfg.ComponentDfg.{ComponentDfg}
use Rattle.pc_dfg.specs.declared.instance.Instance.{Instance}
use Rattle.pc_dfg.specs.declared.instance.Instance.TheVariants as source
use Rattle.pc_dfg.specs.Names.{if_any, in_instance}
use Rattle.pc_dfg.specs.Numbers.{slots_of}
use Rattle.pc_dfg_linearize.specs.declared.state.Finish.{Finish}
use Rattle.pc_dfg_linearize.specs.Added.{add_lowering, add_module, add_slot}
use Rattle.pc_dfg_linearize.specs.Sound.{CountsSteps}
use Rattle.pc_dfg_linearize.specs.Converted.{def_in}
use Rattle.pc_dfg_linearize.specs.Made.{instance_in, with_instance, with_resource}
use Rattle.pc_dfg_linearize.specs.Numbers.{number_at}
use Rattle.pc_dfg_linearize.specs.Once.{Fills, Stay}
use Rattle.pc_dfg_linearize.specs.Parts.{slot_numbers}
use Rattle.pc_dfg_linearize.specs.Plan.{slot_count, steps_view}
use Rattle.pc_info.specs.Slots.{step_definitions}
use Rattle.pc_info.specs.Standing.{CarriesNext, Piece, is_side_effect, named_by, named_in}
use Rattle.pc_dfg_linearize.specs.Steps.{AreSteps, IsConvertible, IsModuleOf, IsOwned, IsSlotOf, IsThere}
use Rattle.pc_dfg_linearize.proofs.AllLemmas.{all_one}
use Rattle.pc_dfg_linearize.proofs.FillLemmas.{pushed_back}
use Rattle.pc_dfg_linearize.proofs.NumberLemmas.{number_back}
use Rattle.pc_dfg_linearize.proofs.SlotLemmas.{kinds, numbers_other, numbers_same, same_else}
use Rattle.pc_dfg_linearize.proofs.StepNameLemmas.{host_same}
use Rattle.pc_dfg_linearize.proofs.StepsLemmas.{all_converted, convertible_later, converted_later, last_instance, last_step}
use Rattle.pc_dfg_linearize.proofs.StepsLemmas.{steps_one}
use Rattle.pc_dfg_linearize.proofs.TakeLemmas.{none_in}
use Rattle.pc_dfg_linearize.proofs.ThereLemmas.{defs_there}

module _ (g : ComponentDfg) (f : Finish) (counts : CountsSteps f) (fills : Fills f) (are : AreSteps g f) where
  -- a step that fills a slot
  module _ (k : plan.SlotKind) (n : ℕ) (i : GlobalInitializer) (d : CoreDef) (at : slice_get (slots_of g k) n ≡ Some d)
      (can : IsConvertible g f d) (within : n < length (slot_numbers f k))
      (view : initializer_view i ≡ plan.extract k (slot_count f k) (def_view (def_in g f d)))
      (stay : Stay f (add_slot k n i f)) (fills' : Fills (add_slot k n i f)) where
    abbrev filled : Finish
    filled = add_slot k n i f

    none_made : filled.instances ≡ f.instances ++ []
    none_made = sym (append-nil f.instances)

    new_slot : IsSlotOf g filled k n (slot_count f k)
    new_slot = record {
      what = d;
      at = at;
      convertible = convertible_later g f filled stay [] none_made (i ∷ []) refl d can;
      step = last_step g f filled stay [] none_made i refl fills fills' _
          (view ∙ ap (λ e. plan.extract k (slot_count f k) (def_view e))
          (sym (converted_later g f filled stay [] none_made (i ∷ []) refl d can)));
    }

    slot_back : (l : plan.SlotKind) (entry m : ℕ) → number_at (slot_numbers filled l) entry ≡ Some m
        → (number_at (slot_numbers f l) entry ≡ Some m) ⊎ IsSlotOf g filled l entry m
    slot_back l entry m is = elim (kinds k l) [
      | inl same ↦
          let here = subst (λ j. number_at (slot_numbers filled j) entry ≡ Some m) (sym same) is in
          let noted = ap (λ ns. number_at ns entry) (sym (numbers_same f n i k)) ∙ here in
          elim (number_back (slot_numbers f k) n (slot_count f k) within entry m noted) [
            | inl new ↦ inr (subst (λ j. IsSlotOf g filled j entry m) same
                (subst (λ e. IsSlotOf g filled k e m) new.0
                (subst (λ c. IsSlotOf g filled k n c) new.1 new_slot)))
            | inr old ↦ inl (subst (λ j. number_at (slot_numbers f j) entry ≡ Some m) same old)
          ]
      | inr other ↦ inl (ap (λ ns. number_at ns entry) (sym (numbers_other f n i k l other)) ∙ is)
    ]

    pub slot_steps : AreSteps g filled
    slot_steps =
        let else = same_else k n (slot_count f k) f.counts f.numbers in
        steps_one g f filled stay [] none_made i refl fills fills' are slot_back
        (λ entry m is. inl (ap (λ ns. number_at ns entry) (sym else.adapter_modules) ∙ is)) (λ j m is. inl is)
        (subst (CarriesNext (steps_view f)) (sym view) (sym (counts.slots k)))
        (λ x names. defs_there g f fills (d ∷ []) (all_one (IsConvertible g f) d can) x
        (subst (λ s. Contains (named_in s) x) view names))

  -- a step that lowers an import
  pub lowering_steps : (t : ℕ) (r : RuntimeImportIndex) → Stay f (add_lowering t r f) → Fills (add_lowering t r f)
      → AreSteps g (add_lowering t r f)
  lowering_steps t r stay fills' =
      steps_one g f (add_lowering t r f) stay [] (sym (append-nil f.instances))
      (init.LowerImport (record { 0 = f.counts.lowerings }) r) refl fills fills' are slots (λ entry m is. inl is)
      (λ j m is. inl is) (sym counts.lowerings) (λ x names. absurd (none_in x names))
    where
      slots : (k : plan.SlotKind) (entry m : ℕ) → number_at (slot_numbers (add_lowering t r f) k) entry ≡ Some m
          → (number_at (slot_numbers f k) entry ≡ Some m) ⊎ IsSlotOf g (add_lowering t r f) k entry m
      slots plan.memory entry m is = inl is
      slots k entry m is = inl is

  -- a step that makes the instance of a module of adapters
  module _ (entry : ℕ) (x : StaticModuleIndex × List CoreDef) (at : slice_get g.adapter_modules entry ≡ Some x)
      (can : All (IsConvertible g f) x.1) (within : entry < length f.numbers.adapter_modules)
      (stay : Stay f (add_module entry x.0 (map (def_in g f) x.1) f))
      (fills' : Fills (add_module entry x.0 (map (def_in g f) x.1) f)) where
    abbrev adapted : Finish
    adapted = add_module entry x.0 (map (def_in g f) x.1) f

    abbrev its_step : GlobalInitializer
    its_step = init.InstantiateModule (plan_source.Static x.0 (map (def_in g f) x.1)) None

    none_more : adapted.instances ≡ f.instances ++ []
    none_more = sym (append-nil f.instances)

    new_module : IsModuleOf g adapted entry f.counts.instances
    new_module =
        let args = all_converted g f adapted stay [] none_more (its_step ∷ []) refl x.1 can in
        record {
          what = x;
          at = at;
          convertible = All-weaker (IsConvertible g f) (IsConvertible g adapted)
              (convertible_later g f adapted stay [] none_more (its_step ∷ []) refl) x.1 can;
          step = last_instance g f adapted stay [] none_more its_step refl fills fills' _ f.counts.instances
              (ap (λ a. plan.instantiate_static x.0.0 a None) (sym args)) counts.instances;
        }

    module_back : (e m : ℕ) → number_at adapted.numbers.adapter_modules e ≡ Some m
        → (number_at f.numbers.adapter_modules e ≡ Some m) ⊎ IsModuleOf g adapted e m
    module_back e m is = elim (number_back f.numbers.adapter_modules entry f.counts.instances within e m is) [
      | inl new ↦ inr (subst (λ z. IsModuleOf g adapted z m) new.0
          (subst (λ c. IsModuleOf g adapted entry c) new.1 new_module))
      | inr old ↦ inl old
    ]

    same_slots : (k : plan.SlotKind) (e m : ℕ) → number_at (slot_numbers adapted k) e ≡ Some m
        → (number_at (slot_numbers f k) e ≡ Some m) ⊎ IsSlotOf g adapted k e m
    same_slots plan.memory e m is = inl is
    same_slots k e m is = inl is

    pub module_steps : AreSteps g adapted
    module_steps =
        steps_one g f adapted stay [] none_more its_step refl fills fills' are same_slots module_back (λ j m is. inl is)
        tt (λ y names. defs_there g f fills x.1 can y names)

-- the definitions of the step that makes a core instance
pub instance_definitions : (g : ComponentDfg) (f : Finish) (x : Instance) (c : RuntimeComponentInstanceIndex)
    → step_definitions (source_view (instance_in g f x) (Some c)) ≡ map def_view (map (def_in g f) (in_instance x))
unfolding in_instance instance_in
instance_definitions g f (source.Static m args) c = refl
instance_definitions g f (source.Import r args) c = host_same g f args

-- it is a side effect, and makes an instance
owns : (m : InstantiateModule) (c : RuntimeComponentInstanceIndex)
    → (is_side_effect (source_view m (Some c)) ≡ true) × (makes_instance (source_view m (Some c)) ≡ true)
owns (plan_source.Static n args) c = (refl, refl)
owns (plan_source.Import r args) c = (refl, refl)

pub is_effect : (m : InstantiateModule) (c : RuntimeComponentInstanceIndex)
    → is_side_effect (source_view m (Some c)) ≡ true
is_effect m c = (owns m c).0

-- it carries no number
carries_none : (before : List plan.Initializer) (m : InstantiateModule) (c : RuntimeComponentInstanceIndex)
    → CarriesNext before (source_view m (Some c))
carries_none before (plan_source.Static n args) c = tt
carries_none before (plan_source.Import r args) c = tt

module _ (g : ComponentDfg) (f : Finish) (counts : CountsSteps f) (fills : Fills f) (are : AreSteps g f) where
  -- a step that makes a core instance
  module _ (x : Instance) (m : InstantiateModule) (c : RuntimeComponentInstanceIndex) (is : m ≡ instance_in g f x)
      (can : All (IsConvertible g f) (in_instance x)) (stay : Stay f (with_instance f m c))
      (fills' : Fills (with_instance f m c)) where
    abbrev instantiated : Finish
    instantiated = with_instance f m c

    abbrev number : RuntimeInstanceIndex
    number = record { 0 = f.counts.instances }

    new_instance : IsOwned g instantiated f.counts.instances
    new_instance = record {
      step = source_view m (Some c);
      effect = (owns m c).0;
      makes = (owns m c).1;
      stands = last_instance g f instantiated stay (number ∷ []) refl (init.InstantiateModule m (Some c)) refl fills
          fills' (source_view m (Some c)) f.counts.instances refl counts.instances;
    }

    owned_back : (k : ℕ) (n : RuntimeInstanceIndex) → slice_get instantiated.instances k ≡ Some n
        → (slice_get f.instances k ≡ Some n) ⊎ IsOwned g instantiated n.0
    owned_back k n at = elim (pushed_back f.instances number n k at) [
      | inl last ↦ inr (subst (λ (z : RuntimeInstanceIndex). IsOwned g instantiated z.0) last.1 new_instance)
      | inr old ↦ inl old
    ]

    slots_back : (k : plan.SlotKind) (e n : ℕ) → number_at (slot_numbers instantiated k) e ≡ Some n
        → (number_at (slot_numbers f k) e ≡ Some n) ⊎ IsSlotOf g instantiated k e n
    slots_back plan.memory e n at = inl at
    slots_back k e n at = inl at

    pub instance_steps : AreSteps g instantiated
    instance_steps =
        steps_one g f instantiated stay (number ∷ []) refl (init.InstantiateModule m (Some c)) refl fills fills' are
        slots_back (λ e n at. inl at) owned_back (carries_none (steps_view f) m c)
        (λ y names. defs_there g f fills (in_instance x) can y
        (subst (λ ds. Contains (flat_map named_by ds) y) (instance_definitions g f x c)
        (subst (λ z. Contains (flat_map named_by (step_definitions (source_view z (Some c)))) y) is names)))

  -- a step that declares a resource
  module _ (r : PlanResource) (o : Option CoreDef) (is : r.dtor ≡ option_map (def_in g f) o)
      (can : All (IsConvertible g f) (if_any o)) (stay : Stay f (with_resource f r))
      (fills' : Fills (with_resource f r)) where
    still_slots : (k : plan.SlotKind) (e n : ℕ) → number_at (slot_numbers (with_resource f r) k) e ≡ Some n
        → (number_at (slot_numbers f k) e ≡ Some n) ⊎ IsSlotOf g (with_resource f r) k e n
    still_slots plan.memory e n at = inl at
    still_slots k e n at = inl at

    destructor_names : (p : Option CoreDef) → All (IsConvertible g f) (if_any p) → (y : Piece)
        → Contains (flat_map named_by (option_to_list (option_map def_view (option_map (def_in g f) p)))) y → IsThere f y
    destructor_names None all y names = absurd (none_in y names)
    destructor_names (Some d) all y names = defs_there g f fills (d ∷ []) all y names

    pub resource_steps : AreSteps g (with_resource f r)
    resource_steps =
        steps_one g f (with_resource f r) stay [] (sym (append-nil f.instances)) (init.Resource r) refl fills fills' are
        still_slots (λ e n at. inl at) (λ k n at. inl at) tt
        (λ y names. destructor_names o can y
        (subst (λ z. Contains (flat_map named_by (option_to_list (option_map def_view z))) y) is names))
