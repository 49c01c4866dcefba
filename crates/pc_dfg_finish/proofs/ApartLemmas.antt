-- Where a run ends no value stands twice, and what has no component instance is of a module of adapters.
use Rattle.std.proofs.Common.{◌≡◌, ◌<◌, ℕ, List, length, map, Option, None, Some, refl, sym, ap, subst, ◌∙◌}
use Rattle.std.specs.Prelude.{slice_get}
use Rattle.std.proofs.lemmas.List.{length-map}
use Rattle.std.proofs.lemmas.Option.{none-some, same_Some, slice_get_within}
use Rattle.pc_entity.proofs.LookupLemmas.{found_at}
use Rattle.pc_numbers.specs.declared.runtime.TrampolineIndex.{TrampolineIndex}
use Rattle.pc_spec_plan.specs.CoreValue as value
use Rattle.pc_spec_plan.specs.CoreValue.{CoreValue, Options}
use Rattle.pc_spec_plan.specs.Log.{Entry}
use Rattle.pc_spec_plan.specs.Machine as machine
use Rattle.pc_spec_plan.specs.Machine.{RuntimeInstance, State, options_at, options_from, resolve, trampoline_value}
use Rattle.pc_spec_plan.specs.PlanView as plan
use Rattle.pc_trampoline.specs.declared.part.Mark.{Mark}
use Rattle.pc_info.specs.declared.module.ModuleTranslation.{ModuleTranslation}
use Rattle.pc_info.specs.Options.{options_view}
use Rattle.pc_info.specs.View.{trampolines_view}
use Rattle.pc_dfg.specs.declared.core_def.CoreDef.TheVariants as def
use Rattle.pc_dfg.specs.declared.dfg.ComponentDfg.{ComponentDfg}
use Rattle.pc_dfg.specs.Held.{HoldsEntry, IsHeld}
use Rattle.pc_dfg.specs.Lists as list
use Rattle.pc_dfg.specs.Means.{Means, MeansOptions, MeansSlot, means_slot}
use Rattle.pc_dfg.specs.Numbers.{slots_of}
use Rattle.pc_dfg.specs.Ordered.{IsOrdered}
use Rattle.pc_dfg.specs.Told.{AreInterned, IsTold, Unsaid}
use Rattle.pc_dfg.proofs.SameLemmas.{defs_same, options_same, slots_same, trampoline_signed}
use Rattle.pc_dfg_linearize.specs.declared.state.Finish.{Finish}
use Rattle.pc_info.specs.Apart.{AreApart}
use Rattle.pc_dfg_finish.specs.Apart.{IsOfAdapters}
use Rattle.pc_dfg_linearize.specs.Closed.{Fits}
use Rattle.pc_dfg_linearize.specs.Numbers.{number_at}
use Rattle.pc_dfg_linearize.specs.Once.{Fills, Origin, number_in_run, of_instance, of_module}
use Rattle.pc_dfg_linearize.specs.Parts.{slot_numbers}
use Rattle.pc_dfg_linearize.specs.Plan.{Extends}
use Rattle.pc_dfg_linearize.specs.Reached.{Placed, Reached}
use Rattle.pc_dfg_linearize.specs.Represented.{Represents}
use Rattle.pc_dfg_linearize.proofs.ClosedSlotLemmas.{numbers_length}
use Rattle.pc_dfg_linearize.proofs.FillLemmas.{in_run, mapped_back}
use Rattle.pc_dfg_linearize.proofs.GainLemmas.{behind_then}
use Rattle.pc_dfg_linearize.proofs.TrampolineLemmas.{first_view}
use Rattle.pc_dfg_linearize.proofs.ValueLemmas.{held_means, held_options_mean}

-- what has a number is an entry of the list
pub number_within : (ns : List (Option ℕ)) (k n : ℕ) → number_at ns k ≡ Some n → k < length ns
number_within ns k n at =
    let found = behind_then (λ (o : Option ℕ). o) (slice_get ns k) n at in
    slice_get_within ns k found.0 found.1

-- one look-up answers one value
one_answer : {A : Type 0} (o : Option A) (x y : A) → o ≡ Some x → o ≡ Some y → x ≡ y
one_answer o x y at at' = same_Some x y (sym at ∙ at')

module _ (g : ComponentDfg) (ordered : IsOrdered g) (f : Finish) (represents : Represents g f) (fills : Fills f)
    (fits : Fits g f) (interned : AreInterned g) (u : Unsaid) (told : IsTold u g) (ms : List ModuleTranslation)
    (s : State Mark) (trace : List (Entry Mark)) (p : plan.PlanView Mark) (reached : Reached g ms f s trace)
    (extends : Extends g ms f p) (options : p.options ≡ map options_view f.options)
    (trampolines : p.trampolines ≡ trampolines_view 0 f.signatures f.trampolines) where
  -- what is in a slot of the run is the value of one of the graph's
  slot_behind : (k : plan.SlotKind) (n : ℕ) (v : CoreValue Mark) → slice_get (machine.slots_of s k) n ≡ Some v
      → (i : ℕ) × (number_at (slot_numbers f k) i ≡ Some n) × MeansSlot g k (Some i) (value.a_value v)
  unfolding HoldsEntry
  slot_behind k n v at =
      let within = subst (λ c. n < c) (reached.filled.slots k) (slice_get_within (machine.slots_of s k) n v at) in
      let given = (fills.slots k).given n within in
      let held = subst (λ c. given.0 < c) (numbers_length g f fits k)
      (number_within (slot_numbers f k) given.0 n given.1) in
      let d = found_at (slots_of g k) given.0 held in
      let w = held_means g ordered d.0 (ordered.held (list.slots k) given.0 d.0 d.1) in
      let filled = reached.filled.slot k given.0 n d.0 w.0 given.1 d.1 w.1 in
      let same = one_answer (slice_get (machine.slots_of s k) n) w.0 v filled at in
      (given.0, given.1, subst (λ x. MeansSlot g k (Some given.0) (value.a_value x)) same (means_slot d.1 w.1))

  -- what a number stands for is what its entry means
  options_meant : (o n : ℕ) (v w : Options Mark) → number_at f.numbers.options o ≡ Some n → MeansOptions g o w
      → options_at p s n ≡ Some v → MeansOptions g o v
  options_meant o n v w number means at =
      let resolved = reached.resolves.options o n w p number means extends in
      subst (MeansOptions g o) (one_answer (options_at p s n) w v resolved at) means

  trampoline_meant : (t : TrampolineIndex) (n : ℕ) (v w : CoreValue Mark)
      → number_at f.numbers.trampolines t.0 ≡ Some n → Means g (def.Trampoline t) w
      → resolve p s (plan.trampoline n) ≡ Some v → Means g (def.Trampoline t) v
  trampoline_meant t n v w number means at =
      let resolved = reached.resolves.trampoline t n w p number means extends in
      subst (Means g (def.Trampoline t)) (one_answer (resolve p s (plan.trampoline n)) w v resolved at) means

  -- and so are options
  options_behind : (n : ℕ) (v : Options Mark) → options_at p s n ≡ Some v
      → (o : ℕ) × (number_at f.numbers.options o ≡ Some n) × MeansOptions g o v
  options_behind n v at =
      let there = behind_then (options_from p s.callbacks s.post_returns s.memories s.reallocs) (slice_get p.options n)
      v at in
      let within = slice_get_within (map options_view f.options) n there.0
      (ap (λ l. slice_get l n) (sym options) ∙ there.1) in
      let given = fills.options.given n (subst (λ c. n < c) (length-map f.options options_view) within) in
      let e = represents.options given.0 n given.1 in
      let w = held_options_mean g ordered given.0 (slice_get_within g.options given.0 e.entry e.at) in
      (given.0, given.1, options_meant given.0 n v w.0 given.1 w.1 at)

  -- and trampolines
  trampoline_behind : (n : ℕ) (v : CoreValue Mark) → resolve p s (plan.trampoline n) ≡ Some v
      → (t : TrampolineIndex) × (number_at f.numbers.trampolines t.0 ≡ Some n) × Means g (def.Trampoline t) v
  unfolding IsHeld
  trampoline_behind n v at =
      let there = behind_then (trampoline_value p s) (slice_get p.trampolines n) v at in
      let made = mapped_back _ (slice_get f.trampolines n) there.0
      (sym (first_view f.signatures f.trampolines n) ∙ ap (λ l. slice_get l n) (sym trampolines) ∙ there.1) in
      let given = fills.trampolines.given n (slice_get_within f.trampolines n made.0 made.1) in
      let t : TrampolineIndex = record { 0 = given.0 } in
      let c = represents.trampolines given.0 n given.1 in
      let w = held_means g ordered (def.Trampoline t) (slice_get_within g.trampolines given.0 c.entry c.at) in
      (t, given.1, trampoline_meant t n v w.0 given.1 w.1 at)

  -- what means one value has one number, so no value stands twice
  pub are_apart : AreApart p s
  are_apart = record {
    slots = λ k m n v a b.
        let x = slot_behind k m v a in
        let y = slot_behind k n v b in
        let one = same_Some x.0 y.0 (slots_same g u interned told refl refl x.2 y.2) in
        same_Some m n (sym x.1 ∙ ap (number_at (slot_numbers f k)) one ∙ y.1);
    options = λ m n v a b.
        let x = options_behind m v a in
        let y = options_behind n v b in
        let one = options_same g u interned told refl x.2 y.2 in
        same_Some m n (sym x.1 ∙ ap (number_at f.numbers.options) one ∙ y.1);
    trampolines = λ m n v a b.
        let x = trampoline_behind m v a in
        let y = trampoline_behind n v b in
        let one = defs_same g u interned told (trampoline_signed u x.0) (trampoline_signed u y.0) refl x.2 y.2 in
        let number : x.0.0 ≡ y.0.0 = cc in
        same_Some m n (sym x.1 ∙ ap (number_at f.numbers.trampolines) number ∙ y.1);
  }

-- an instance of the run is a core instance of the graph or that of a module of adapters
pub is_of_adapters : (g : ComponentDfg) (f : Finish) (s : State Mark) → Placed g f s → Fills f → (r : ℕ)
    (m : RuntimeInstance Mark) → slice_get s.instances r ≡ Some m → m.component_instance ≡ None
    → IsOfAdapters g m.instantiation
is_of_adapters g f s placed fills r m at unowned =
    let within = subst (λ c. r < c) placed.count (slice_get_within s.instances r m at) in
    let given = fills.instances.given r within in
    by given.0 given.1
  where
    by : (x : Origin) → number_in_run f x ≡ Some r → IsOfAdapters g m.instantiation
    by (of_instance k) is =
        let n = mapped_back in_run (slice_get f.instances k) r is in
        let q = placed.instance k n.0 n.1 in
        let same = same_Some q.0 m (sym q.3 ∙ ap (slice_get s.instances) n.2 ∙ at) in
        absurd (none-some q.1 (sym unowned ∙ sym (ap (λ (x : RuntimeInstance Mark). x.component_instance) same) ∙ q.4))
    by (of_module k) is =
        let q = placed.adapter_module k r is in
        let same = same_Some m _ (sym at ∙ q.4) in
        record {
          place = k;
          adapters = q.0;
          at = q.2;
          values = q.1;
          means = q.3;
          is = ap (λ (x : RuntimeInstance Mark). x.instantiation) same;
        }
