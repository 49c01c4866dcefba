-- A plan with nothing in it: no side effect was done, and its run is at the start.
use Rattle.std.proofs.Common.{◌≡◌, ◌<◌, ℕ, zero, suc, List, [], ◌∷◌, length, Option, None, Some, refl, arith}
use Rattle.std.specs.Prelude.{option_and_then, option_map, replicate, slice_get}
use Rattle.std.specs.List.{AllZip}
use Rattle.std.proofs.lemmas.List.{length-replicate}
use Rattle.std.proofs.lemmas.List.Elements.{All-nil}
use Rattle.std.proofs.lemmas.Option.{none-some}
use Rattle.pc_entity.specs.PackedOption.{as_option}
use Rattle.pc_entity.specs.declared.packed_option.PackedOption.TheVariants as packed
use Rattle.pc_numbers.specs.declared.module_entity.ModuleInternedTypeIndex.{ModuleInternedTypeIndex}
use Rattle.pc_types.specs.IntrinsicType.{intrinsic_place}
use Rattle.pc_spec_plan.specs.Log.{Entry}
use Rattle.pc_spec_plan.specs.Machine.{start}
use Rattle.pc_spec_plan.specs.Machine as machine
use Rattle.pc_spec_plan.specs.PlanView as plan
use Rattle.pc_trampoline.specs.declared.part.Mark.{Mark}
use Rattle.pc_info.specs.declared.module.ModuleTranslation.{ModuleTranslation}
use Rattle.pc_dfg.specs.declared.dfg.ComponentDfg.{ComponentDfg}
use Rattle.pc_dfg.specs.Effects.{MeansEffect}
use Rattle.pc_dfg_linearize.specs.declared.id.Id.{Id}
use Rattle.pc_dfg_linearize.specs.declared.id.Id.TheVariants as id
use Rattle.pc_dfg_linearize.specs.Made.{DoneBefore, Stands}
use Rattle.pc_dfg_linearize.specs.Numbers.{number_at}
use Rattle.pc_dfg_linearize.specs.Once.{AreGiven, Origin, number_in_run, of_instance, of_module}
use Rattle.pc_dfg_linearize.specs.Parts.{HasNumber, number_of, slot_numbers}
use Rattle.pc_dfg_linearize.specs.Plan.{slot_count}
use Rattle.pc_dfg_linearize.specs.Reached.{Reached}
use Rattle.pc_dfg_finish.specs.Instantiated.{AreInstantiated}
use Rattle.pc_dfg_finish.specs.Whole.{empty_plan}
use Rattle.pc_dfg_linearize.proofs.StepNameLemmas.{none_named}
use Rattle.pc_dfg_linearize.proofs.TakeLemmas.{none_in}

-- no entry has a number
pub none_numbered : (n k m : ℕ) → number_at (replicate n None) k ≡ Some m → ⊥
none_numbered zero k m at = none-some m at
none_numbered (suc n) zero m at = none-some m at
none_numbered (suc n) (suc k) m at = none_numbered n k m at

-- no intrinsic has a signature
none_signed : (n k m : ℕ)
    → option_map (λ (s : ModuleInternedTypeIndex). k)
    (option_and_then as_option (slice_get (replicate n packed.None) k))
    ≡ Some m → ⊥
none_signed n k m at = by n k k at
  where
    by : (n j k : ℕ) → option_map (λ (s : ModuleInternedTypeIndex). k)
        (option_and_then as_option (slice_get (replicate n packed.None) j)) ≡ Some m → ⊥
    by zero j k h = none-some m h
    by (suc n) zero k h = none-some m h
    by (suc n) (suc j) k h = by n j k h

none_recorded : (n k : ℕ) (s : ModuleInternedTypeIndex) → slice_get (replicate n packed.None) k ≡ Some (packed.Some s)
    → ⊥
none_recorded zero k s at = none-some (packed.Some s) at
none_recorded (suc n) zero s at = absurd (cc at)
none_recorded (suc n) (suc k) s at = none_recorded n k s at

-- no numbers are all below none
none_given : {A : Type 0} (number : A → Option ℕ) → ((x : A) (n : ℕ) → number x ≡ Some n → ⊥) → AreGiven number 0
none_given number none = record {
  below = λ x n at. absurd (none x n at);
  given = λ n within. absurd (omega (arith, within));
  once = λ x y n at there. absurd (none x n at);
}

module _ (g : ComponentDfg) where
  none_filled : (k : plan.SlotKind) (i n : ℕ) → number_at (slot_numbers (empty_plan g) k) i ≡ Some n → ⊥
  none_filled plan.memory i n at = none_numbered (length g.memories) i n at
  none_filled plan.table i n at = none_numbered (length g.tables) i n at
  none_filled plan.realloc i n at = none_numbered (length g.reallocs) i n at
  none_filled plan.callback i n at = none_numbered (length g.callbacks) i n at
  none_filled plan.post_return i n at = none_numbered (length g.post_returns) i n at

  no_slots : (k : plan.SlotKind) → length (machine.slots_of {τ = Mark} start k) ≡ slot_count (empty_plan g) k
  no_slots plan.memory = refl
  no_slots plan.table = refl
  no_slots plan.realloc = refl
  no_slots plan.callback = refl
  no_slots plan.post_return = refl

  none_counted : (k : plan.SlotKind) → 0 ≡ slot_count (empty_plan g) k
  none_counted plan.memory = refl
  none_counted plan.table = refl
  none_counted plan.realloc = refl
  none_counted plan.callback = refl
  none_counted plan.post_return = refl

  slots_given : (k : plan.SlotKind) → AreGiven (number_at (slot_numbers (empty_plan g) k)) (slot_count (empty_plan g) k)
  slots_given plan.memory = none_given _ (none_filled plan.memory)
  slots_given plan.table = none_given _ (none_filled plan.table)
  slots_given plan.realloc = none_given _ (none_filled plan.realloc)
  slots_given plan.callback = none_given _ (none_filled plan.callback)
  slots_given plan.post_return = none_given _ (none_filled plan.post_return)

  none_in_run : (x : Origin) (n : ℕ) → number_in_run (empty_plan g) x ≡ Some n → ⊥
  none_in_run (of_instance k) n at = none-some n at
  none_in_run (of_module k) n at = none_numbered (length g.adapter_modules) k n at

  -- no id has a number
  none_has : (x : Id) → HasNumber (empty_plan g) x → ⊥
  unfolding number_of
  none_has (id.Memory n) has = none_numbered (length g.memories) n.0 has.0 has.1
  none_has (id.Table n) has = none_numbered (length g.tables) n.0 has.0 has.1
  none_has (id.Realloc n) has = none_numbered (length g.reallocs) n.0 has.0 has.1
  none_has (id.Callback n) has = none_numbered (length g.callbacks) n.0 has.0 has.1
  none_has (id.PostReturn n) has = none_numbered (length g.post_returns) n.0 has.0 has.1
  none_has (id.Options o) has = none_numbered (length g.options) o.0 has.0 has.1
  none_has (id.Lowering t) has = none_numbered (length g.trampolines) t.0 has.0 has.1
  none_has (id.Trampoline t) has = none_numbered (length g.trampolines) t.0 has.0 has.1
  none_has (id.Intrinsic s i) has = none_signed 21 (intrinsic_place i) has.0 has.1
  none_has (id.AdapterModule m) has = none_numbered (length g.adapter_modules) m.0 has.0 has.1

  starts : (ms : List ModuleTranslation) → Reached g ms (empty_plan g) start []
  starts ms = record {
    runs = λ p extends. refl;
    traced = λ p extends. refl;
    placed = record {
      count = refl;
      next = refl;
      instance = λ k n at. absurd (none-some n at);
      adapter_module = λ k n at. absurd (none_numbered (length g.adapter_modules) k n at);
    };
    filled = record {
      lowerings = refl;
      slots = no_slots;
      resources = refl;
      lowering = λ t n r o x s ty at there is. absurd (none_numbered (length g.trampolines) t n at);
      slot = λ k i n d v at there means. absurd (none_filled k i n at);
    };
    resolves = record {
      options = λ o n v p at means extends. absurd (none_numbered (length g.options) o n at);
      trampoline = λ t n v p at means extends. absurd (none_numbered (length g.trampolines) t.0 n at);
    };
  }

  none_stand : (ms : List ModuleTranslation) (trace : List (Entry Mark)) → AllZip (MeansEffect g) [] trace
      → Stands g ms (empty_plan g) trace
  none_stand ms [] zip = record { state = start; reached = starts ms }
  none_stand ms (e ∷ es) zip = absurd zip

  pub none_done : DoneBefore g 0 (empty_plan g)
  none_done = record {
    fits = record {
      memories = length-replicate _ _;
      tables = length-replicate _ _;
      reallocs = length-replicate _ _;
      callbacks = length-replicate _ _;
      post_returns = length-replicate _ _;
      options = length-replicate _ _;
      lowerings = length-replicate _ _;
      trampolines = length-replicate _ _;
      adapter_modules = length-replicate _ _;
      intrinsics = refl;
      signatures = refl;
    };
    counts = record { instances = refl; lowerings = refl; slots = none_counted; resources = refl };
    fills = record {
      slots = slots_given;
      options = none_given _ (none_numbered (length g.options));
      lowerings = none_given _ (none_numbered (length g.trampolines));
      trampolines = none_given _ (none_numbered (length g.trampolines));
      instances = none_given (number_in_run (empty_plan g)) none_in_run;
    };
    represents = record {
      intrinsics = λ n s at. absurd (none_recorded 21 n s at);
      parts = λ x has. absurd (none_has x has);
      named = λ x has. absurd (none_has x has);
      options = λ k n at. absurd (none_numbered (length g.options) k n at);
      trampolines = λ t n at. absurd (none_numbered (length g.trampolines) t n at);
    };
    are_steps = record {
      slots = λ k i n at. absurd (none_filled k i n at);
      modules = λ m n at. absurd (none_numbered (length g.adapter_modules) m n at);
      owned = λ k n at. absurd (none-some n at);
      carry = λ i s at. absurd (none-some s at);
      there = λ s inside. absurd (none_in s inside);
    };
    passed = record {
      options = λ n (below : n < 0). absurd (omega (arith, below));
      trampolines = λ n (below : n < 0). absurd (omega (arith, below));
    };
    stages = λ i s at. absurd (none-some s at);
    ends = λ i s at. absurd (none-some s at);
    here = All-nil (HasNumber (empty_plan g));
    named = none_named (empty_plan g) [];
    used = λ y has. absurd (none_has y has);
    instances = refl;
    resources = refl;
    stands = λ ms trace wired zip. none_stand ms trace zip;
  }

-- and no core instance was made
pub none_instantiated : (g : ComponentDfg) → AreInstantiated g (empty_plan g)
none_instantiated g k n is = absurd (none-some n is)
