-- Each number is given once, and the numbers below a count are those that were given.
use Rattle.std.proofs.Common.{◌≡◌, ◌<◌, ◌+◌, ◌++◌, ℕ, zero, suc, List, [], ◌∷◌, length, Option, None, Some, option_map}
use Rattle.std.proofs.Common.{refl, sym, ap, subst, ◌∙◌, ◌⊎◌, inl, inr, arith}
use Rattle.std.specs.Prelude.{option_and_then, slice_get}
use Rattle.std.proofs.lemmas.Bool.{cases_eq}
use Rattle.std.proofs.lemmas.List.{length_push}
use Rattle.std.proofs.lemmas.Option.{none-some, same_Some}
use Rattle.pc_entity.proofs.Growing.{slice_get-append, slice_get-append_seam, slice_get-set_other}
use Rattle.pc_numbers.specs.declared.component_entity.StaticModuleIndex.{StaticModuleIndex}
use Rattle.pc_numbers.specs.declared.module_entity.ModuleInternedTypeIndex.{ModuleInternedTypeIndex}
use Rattle.pc_numbers.specs.declared.runtime.RuntimeComponentInstanceIndex.{RuntimeComponentInstanceIndex}
use Rattle.pc_numbers.specs.declared.runtime.RuntimeImportIndex.{RuntimeImportIndex}
use Rattle.pc_numbers.specs.declared.runtime.RuntimeInstanceIndex.{RuntimeInstanceIndex}
use Rattle.pc_types.specs.declared.intrinsic.UnsafeIntrinsic.{UnsafeIntrinsic}
use Rattle.pc_spec_plan.specs.PlanView as plan
use Rattle.pc_trampoline.specs.View.{PlanTrampoline}
use Rattle.pc_info.specs.declared.core_def.CoreDef.{CoreDef as PlanDef}
use Rattle.pc_info.specs.declared.initializer.GlobalInitializer.{GlobalInitializer}
use Rattle.pc_info.specs.declared.options.CanonicalOptions.{CanonicalOptions as PlanOptions}
use Rattle.pc_dfg_linearize.specs.declared.state.Finish.{Finish}
use Rattle.pc_dfg_linearize.specs.Added.{add_slot, add_lowering, add_module, add_options, add_trampoline, note_intrinsic}
use Rattle.pc_dfg_linearize.specs.Numbers.{number_at, with_number}
use Rattle.pc_dfg_linearize.specs.Once.{AreGiven, Fills, Origin, number_in_run, of_instance, of_module}
use Rattle.pc_dfg_linearize.specs.Parts.{slot_numbers}
use Rattle.pc_dfg_linearize.specs.Plan.{slot_count}
use Rattle.pc_dfg_linearize.proofs.NumberLemmas.{number_back, number_noted}

module _ {A : Type 0} (number number' : A → Option ℕ) (count : ℕ) (a : A) (here : number' a ≡ Some count)
    (keeps : (x : A) (n : ℕ) → number x ≡ Some n → number' x ≡ Some n)
    (only : (x : A) (n : ℕ) → number' x ≡ Some n → ((a ≡ x) × (count ≡ n)) ⊎ (number x ≡ Some n))
    (given : AreGiven number count) where
  below_next : (x : A) (n : ℕ) → number' x ≡ Some n → n < count + 1
  below_next x n is =
      elim (only x n is) [ inl same ↦ omega (arith, same.1) | inr before ↦ omega (arith, given.below x n before) ]

  given_next : (n : ℕ) → n < count + 1 → (x : A) × (number' x ≡ Some n)
  given_next n below = elim (cases_eq n count) as (λ _. (x : A) × (number' x ≡ Some n)) [
    | inl same ↦ (a, here ∙ ap (λ k. Some k) (sym same))
    | inr other ↦ let x = given.given n (omega (arith, below, other)) in (x.0, keeps x.0 n x.1)
  ]

  once_next : (x y : A) (n : ℕ) → ((a ≡ x) × (count ≡ n)) ⊎ (number x ≡ Some n)
      → ((a ≡ y) × (count ≡ n)) ⊎ (number y ≡ Some n) → x ≡ y
  once_next x y n (inl p) (inl q) = sym p.0 ∙ q.0
  once_next x y n (inl p) (inr q) = absurd (omega (arith, p.1, given.below y n q))
  once_next x y n (inr p) (inl q) = absurd (omega (arith, q.1, given.below x n p))
  once_next x y n (inr p) (inr q) = given.once x y n p q

  -- one entry more, with the next number
  pub given_more : AreGiven number' (count + 1)
  given_more = record {
    below = below_next;
    given = given_next;
    once = λ x y n p q. once_next x y n (only x n p) (only y n q);
  }

-- a number stays where an entry without one gets one
number_stays : (ns : List (Option ℕ)) (k count : ℕ) → number_at ns k ≡ None → (j n : ℕ) → number_at ns j ≡ Some n
    → number_at (with_number ns k count) j ≡ Some n
number_stays ns k count none j n is = elim (cases_eq j k) as (λ _. number_at (with_number ns k count) j ≡ Some n) [
  | inl same ↦ absurd (none-some n (sym none ∙ ap (number_at ns) (sym same) ∙ is))
  | inr other ↦ ap (option_and_then (λ (o : Option ℕ). o)) (slice_get-set_other ns k j (Some count) other) ∙ is
]

-- an entry of a list without a number gets the next one
given_noted : (ns : List (Option ℕ)) (k count : ℕ) → k < length ns → number_at ns k ≡ None
    → AreGiven (number_at ns) count → AreGiven (number_at (with_number ns k count)) (count + 1)
given_noted ns k count within none given =
    given_more (number_at ns) (number_at (with_number ns k count)) count k (number_noted ns k count within)
    (number_stays ns k count none) (number_back ns k count within) given

-- the slots of each kind are those of one entry each
abbrev SlotsGiven : Finish → Type 0
SlotsGiven f = (k : plan.SlotKind) → AreGiven (number_at (slot_numbers f k)) (slot_count f k)

-- a plan with one more core instance of the graph
abbrev pub more_instances : Finish → List GlobalInitializer → Finish
more_instances f steps = record f {
  steps = steps;
  instances = f.instances ++ record { 0 = f.counts.instances } ∷ [];
  counts = record f.counts { instances = f.counts.instances + 1 };
}

-- the number of a core instance
abbrev pub in_run : RuntimeInstanceIndex → ℕ
in_run n = n.0

-- an item is an earlier one, or the last
pub pushed_back : {A : Type 0} (xs : List A) (y x : A) (k : ℕ) → slice_get (xs ++ y ∷ []) k ≡ Some x
    → ((length xs ≡ k) × (y ≡ x)) ⊎ (slice_get xs k ≡ Some x)
pushed_back [] y x zero at = inl (refl, same_Some y x at)
pushed_back [] y x (suc k) at = absurd (none-some x at)
pushed_back (z ∷ xs) y x zero at = inr at
pushed_back (z ∷ xs) y x (suc k) at =
    elim (pushed_back xs y x k at) [ inl p ↦ inl (ap (λ n. suc n) p.0, p.1) | inr before ↦ inr before ]

-- what a function makes of what is there comes from it
pub mapped_back : {A B : Type 0} (f : A → B) (o : Option A) (y : B) → option_map f o ≡ Some y
    → (x : A) × (o ≡ Some x) × (f x ≡ y)
mapped_back f None y is = absurd (none-some y is)
mapped_back f (Some x) y is = (x, refl, same_Some (f x) y is)

module _ (f : Finish) (fills : Fills f) where
  slots_given : (k : plan.SlotKind) (entry : ℕ) (i : GlobalInitializer) → entry < length (slot_numbers f k)
      → number_at (slot_numbers f k) entry ≡ None → SlotsGiven (add_slot k entry i f)
  slots_given plan.memory entry i within none plan.memory =
      given_noted f.numbers.memories entry f.counts.memories within none (fills.slots plan.memory)
  slots_given plan.memory entry i within none j = fills.slots j
  slots_given plan.table entry i within none plan.table =
      given_noted f.numbers.tables entry f.counts.tables within none (fills.slots plan.table)
  slots_given plan.table entry i within none j = fills.slots j
  slots_given plan.realloc entry i within none plan.realloc =
      given_noted f.numbers.reallocs entry f.counts.reallocs within none (fills.slots plan.realloc)
  slots_given plan.realloc entry i within none j = fills.slots j
  slots_given plan.callback entry i within none plan.callback =
      given_noted f.numbers.callbacks entry f.counts.callbacks within none (fills.slots plan.callback)
  slots_given plan.callback entry i within none j = fills.slots j
  slots_given plan.post_return entry i within none plan.post_return =
      given_noted f.numbers.post_returns entry f.counts.post_returns within none (fills.slots plan.post_return)
  slots_given plan.post_return entry i within none j = fills.slots j

  -- a slot more
  pub slot_fills : (k : plan.SlotKind) (entry : ℕ) (i : GlobalInitializer) → entry < length (slot_numbers f k)
      → number_at (slot_numbers f k) entry ≡ None → Fills (add_slot k entry i f)
  slot_fills plan.memory entry i within none = record {
    slots = slots_given plan.memory entry i within none;
    options = fills.options;
    lowerings = fills.lowerings;
    trampolines = fills.trampolines;
    instances = fills.instances;
  }
  slot_fills k entry i within none = record {
    slots = slots_given k entry i within none;
    options = fills.options;
    lowerings = fills.lowerings;
    trampolines = fills.trampolines;
    instances = fills.instances;
  }

  -- a lowering more
  pub lowering_fills : (entry : ℕ) (r : RuntimeImportIndex) → entry < length f.numbers.lowerings
      → number_at f.numbers.lowerings entry ≡ None → Fills (add_lowering entry r f)
  lowering_fills entry r within none = record {
    slots = each;
    options = fills.options;
    lowerings = given_noted f.numbers.lowerings entry f.counts.lowerings within none fills.lowerings;
    trampolines = fills.trampolines;
    instances = fills.instances;
  }
    where
      each : SlotsGiven (add_lowering entry r f)
      each plan.memory = fills.slots plan.memory
      each k = fills.slots k

  -- an instance of a module of adapters more
  pub module_fills : (entry : ℕ) (static : StaticModuleIndex) (args : List PlanDef)
      → entry < length f.numbers.adapter_modules → number_at f.numbers.adapter_modules entry ≡ None
      → Fills (add_module entry static args f)
  module_fills entry static args within none = record {
    slots = each;
    options = fills.options;
    lowerings = fills.lowerings;
    trampolines = fills.trampolines;
    instances =
        given_more (number_in_run f) (number_in_run (add_module entry static args f)) f.counts.instances
        (of_module entry)
        (number_noted f.numbers.adapter_modules entry f.counts.instances within) keeps only fills.instances;
  }
    where
      each : SlotsGiven (add_module entry static args f)
      each plan.memory = fills.slots plan.memory
      each k = fills.slots k

      keeps : (x : Origin) (n : ℕ) → number_in_run f x ≡ Some n
          → number_in_run (add_module entry static args f) x ≡ Some n
      keeps (of_instance k) n is = is
      keeps (of_module k) n is = number_stays f.numbers.adapter_modules entry f.counts.instances none k n is

      only : (x : Origin) (n : ℕ) → number_in_run (add_module entry static args f) x ≡ Some n
          → ((of_module entry ≡ x) × (f.counts.instances ≡ n)) ⊎ (number_in_run f x ≡ Some n)
      only (of_instance k) n is = inr is
      only (of_module k) n is =
          elim (number_back f.numbers.adapter_modules entry f.counts.instances within k n is) [
            | inl p ↦ inl (ap of_module p.0, p.1)
            | inr before ↦ inr before
          ]

  -- an options entry more
  pub options_fills : (entry : ℕ) (o : PlanOptions) → entry < length f.numbers.options
      → number_at f.numbers.options entry ≡ None → Fills (add_options entry o f)
  options_fills entry o within none = record {
    slots = each;
    options = subst (AreGiven (number_at (add_options entry o f).numbers.options)) (sym (length_push f.options o))
        (given_noted f.numbers.options entry (length f.options) within none fills.options);
    lowerings = fills.lowerings;
    trampolines = fills.trampolines;
    instances = fills.instances;
  }
    where
      each : SlotsGiven (add_options entry o f)
      each plan.memory = fills.slots plan.memory
      each k = fills.slots k

  -- a trampoline more
  pub trampoline_fills : (entry : ℕ) (s : ModuleInternedTypeIndex) (t : PlanTrampoline)
      → entry < length f.numbers.trampolines → number_at f.numbers.trampolines entry ≡ None
      → Fills (add_trampoline entry s t f)
  trampoline_fills entry s t within none = record {
    slots = each;
    options = fills.options;
    lowerings = fills.lowerings;
    trampolines =
        subst (AreGiven (number_at (add_trampoline entry s t f).numbers.trampolines))
        (sym (length_push f.trampolines t))
        (given_noted f.numbers.trampolines entry (length f.trampolines) within none fills.trampolines);
    instances = fills.instances;
  }
    where
      each : SlotsGiven (add_trampoline entry s t f)
      each plan.memory = fills.slots plan.memory
      each k = fills.slots k

  -- a signature of an intrinsic more
  pub intrinsic_fills : (s : ModuleInternedTypeIndex) (i : UnsafeIntrinsic) → Fills (note_intrinsic i s f)
  intrinsic_fills s i = record {
    slots = each;
    options = fills.options;
    lowerings = fills.lowerings;
    trampolines = fills.trampolines;
    instances = fills.instances;
  }
    where
      each : SlotsGiven (note_intrinsic i s f)
      each plan.memory = fills.slots plan.memory
      each k = fills.slots k

  instance_kept : (steps : List GlobalInitializer) (x : Origin) (n : ℕ) → number_in_run f x ≡ Some n
      → number_in_run (more_instances f steps) x ≡ Some n
  instance_kept steps (of_module k) n is = is
  instance_kept steps (of_instance k) n is =
      let found = mapped_back in_run (slice_get f.instances k) n is in
      ap (option_map in_run) (slice_get-append f.instances _ k found.0 found.1) ∙ ap (λ m. Some m) found.2

  instance_back : (steps : List GlobalInitializer) (x : Origin) (n : ℕ)
      → number_in_run (more_instances f steps) x ≡ Some n
      → ((of_instance (length f.instances) ≡ x) × (f.counts.instances ≡ n)) ⊎ (number_in_run f x ≡ Some n)
  instance_back steps (of_module k) n is = inr is
  instance_back steps (of_instance k) n is =
      let last : RuntimeInstanceIndex = record { 0 = f.counts.instances } in
      let found = mapped_back in_run (slice_get (f.instances ++ last ∷ []) k) n is in
      elim (pushed_back f.instances last found.0 k found.1) [
        | inl p ↦ inl (ap of_instance p.0, ap in_run p.1 ∙ found.2)
        | inr before ↦ inr (ap (option_map in_run) before ∙ ap (λ m. Some m) found.2)
      ]

  -- a core instance of the graph more, and steps
  pub instance_fills : (steps : List GlobalInitializer) → Fills (more_instances f steps)
  instance_fills steps = record {
    slots = each;
    options = fills.options;
    lowerings = fills.lowerings;
    trampolines = fills.trampolines;
    instances =
        given_more (number_in_run f) (number_in_run (more_instances f steps)) f.counts.instances
        (of_instance (length f.instances))
        (ap (option_map in_run) (slice_get-append_seam f.instances (record { 0 = f.counts.instances }) []))
        (instance_kept steps) (instance_back steps) fills.instances;
  }
    where
      each : SlotsGiven (more_instances f steps)
      each plan.memory = fills.slots plan.memory
      each k = fills.slots k

  -- steps and resources are numbered nowhere else
  pub resource_fills : (steps : List GlobalInitializer) (resources : List RuntimeComponentInstanceIndex)
      → Fills (record f { steps = steps; resources = resources })
  resource_fills steps resources = record {
    slots = each;
    options = fills.options;
    lowerings = fills.lowerings;
    trampolines = fills.trampolines;
    instances = fills.instances;
  }
    where
      each : SlotsGiven (record f { steps = steps; resources = resources })
      each plan.memory = fills.slots plan.memory
      each k = fills.slots k
