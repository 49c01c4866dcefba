-- A run that goes on while the plan is made further without a side effect.
use Rattle.std.proofs.Common.{◌≡◌, ◌≤◌, ◌+◌, ℕ, Bool, false, List, [], ◌∷◌, ◌++◌, length, map, take, Option, None}
use Rattle.std.proofs.Common.{Some, refl, sym, ap, ◌∙◌}
use Rattle.std.specs.Prelude.{slice_get, count_by, is_some}
use Rattle.std.proofs.lemmas.List.{append-nil, map-append}
use Rattle.std.proofs.lemmas.List.Elements.{All-nil, All-cons}
use Rattle.pc_numbers.specs.declared.runtime.RuntimeInstanceIndex.{RuntimeInstanceIndex}
use Rattle.pc_spec_plan.specs.Log.{Entry}
use Rattle.pc_spec_plan.specs.Machine.{State, RuntimeInstance, start, run_from, step}
use Rattle.pc_spec_plan.specs.PlanView as plan
use Rattle.pc_spec_plan.specs.Trace.{trace_from}
use Rattle.pc_trampoline.specs.declared.part.Mark.{Mark}
use Rattle.pc_info.specs.declared.initializer.GlobalInitializer.{GlobalInitializer}
use Rattle.pc_info.specs.declared.module.ModuleTranslation.{ModuleTranslation}
use Rattle.pc_info.specs.Definitions.{initializer_view}
use Rattle.pc_dfg.specs.declared.dfg.ComponentDfg.{ComponentDfg}
use Rattle.pc_dfg_linearize.specs.declared.id.Id.{Id}
use Rattle.pc_dfg_linearize.specs.declared.state.Finish.{Finish}
use Rattle.pc_dfg_linearize.specs.Closed.{AddsSteps, Continues, Fits}
use Rattle.pc_dfg_linearize.specs.Sound.{CountsSteps, HasPassed, IsSound}
use Rattle.pc_dfg_linearize.specs.Numbers.{number_at}
use Rattle.pc_dfg_linearize.specs.Once.{Fills, Stay}
use Rattle.pc_dfg_linearize.specs.Parts.{HasNumber}
use Rattle.pc_dfg_linearize.specs.Plan.{Extends, steps_view}
use Rattle.pc_dfg_linearize.specs.Represented.{Represents}
use Rattle.pc_dfg_linearize.specs.Reached.{all_linked, Filled, Gains, Grown, Placed, Reached, Resolves}
use Rattle.pc_info.specs.Standing.{is_side_effect}
use Rattle.pc_dfg_linearize.specs.Steps.{AreSteps}
use Rattle.pc_dfg_linearize.proofs.CountLemmas.{CountsOne, counts_more}
use Rattle.pc_dfg_linearize.proofs.SoundLemmas.{passes}
use Rattle.pc_dfg_linearize.proofs.GainLemmas.{gains_nothing, options_kept, resolve_kept}
use Rattle.pc_dfg_linearize.proofs.StepLemmas.{IsCounted, is_within_counts, run_more, trace_more}

-- a state has gained nothing over itself
pub gains_refl : (s : State Mark) → Gains s s
gains_refl s = record {
  more = [];
  instances = sym (append-nil s.instances);
  unowned = All-nil (λ (m : RuntimeInstance Mark). m.component_instance ≡ None);
  lowerings = λ n x at. at;
  slots = λ k n x at. at;
  resources = refl;
}

-- whether an instance was made for a component instance
abbrev is_owned : RuntimeInstance Mark → Bool
is_owned m = is_some m.component_instance

module _ (g : ComponentDfg) (ms : List ModuleTranslation) (f h : Finish) (s t : State Mark) where
  -- options and trampolines stand for what they stood for
  pub resolves_stay : Gains s t → h.numbers.options ≡ f.numbers.options → h.numbers.trampolines ≡ f.numbers.trampolines
      → ((p : plan.PlanView Mark) → Extends g ms h p → Extends g ms f p) → Resolves g ms f s → Resolves g ms h t
  resolves_stay gains os ts back r = record {
    options = λ o n v p at means extends.
        options_kept p s t gains n v (r.options o n v p (ap (λ (l : List (Option ℕ)). number_at l o) (sym os) ∙ at)
        means
        (back p extends));
    trampoline = λ x n v p at means extends.
        resolve_kept p s t gains (plan.trampoline n) v
        (r.trampoline x n v p (ap (λ (l : List (Option ℕ)). number_at l x.0) (sym ts) ∙ at) means (back p extends));
  }

  -- instances stand where they stood
  pub placed_stays : h.counts.instances ≡ f.counts.instances → h.instances ≡ f.instances
      → h.numbers.adapter_modules ≡ f.numbers.adapter_modules → t.instances ≡ s.instances → Placed g f s → Placed g h t
  placed_stays counts instances modules same p = record {
    count = ap length same ∙ p.count ∙ sym counts;
    next = ap (λ (l : List (RuntimeInstance Mark)). count_by is_owned (take (length l) l)) same ∙ p.next
        ∙ sym (ap length instances);
    instance = λ k n at.
        let q = p.instance k n (ap (λ (l : List RuntimeInstanceIndex). slice_get l k) (sym instances) ∙ at) in (
          q.0,
          q.1,
          q.2,
          ap (λ (l : List (RuntimeInstance Mark)). slice_get l n.0) same ∙ q.3,
          q.4,
          ap (λ (l : List (RuntimeInstance Mark)). count_by is_owned (take n.0 l)) same ∙ q.5,
          q.6,
          q.7,
        );
    adapter_module = λ k n at.
        let q = p.adapter_module k n (ap (λ (l : List (Option ℕ)). number_at l k) (sym modules) ∙ at) in
        (q.0, q.1, q.2, q.3, ap (λ (l : List (RuntimeInstance Mark)). slice_get l n) same ∙ q.4);
  }

  -- what was reached goes on by a step
  pub grown_step : (i : GlobalInitializer) (trace : List (Entry Mark)) → h.steps ≡ f.steps ++ i ∷ [] → Gains s t
      → ((p : plan.PlanView Mark) → Extends g ms h p → Extends g ms f p)
      → ((p : plan.PlanView Mark) → Extends g ms h p → step p all_linked s (initializer_view i) ≡ Some t)
      → Placed g h t → Filled g h t → Resolves g ms h t → Reached g ms f s trace → Grown g ms h s trace
  grown_step i trace steps gains back stepped placed filled resolves r =
      let view : steps_view h ≡ steps_view f ++ initializer_view i ∷ [] =
      ap (map initializer_view) steps ∙ map-append initializer_view f.steps (i ∷ []) in
      let counted : IsCounted h t = record {
        instances = placed.count;
        lowerings = filled.lowerings;
        slots = filled.slots;
        resources = filled.resources;
      } in
      record {
        state = t;
        reached = record {
          runs = λ p e.
              ap (λ (l : List plan.Initializer). run_from p all_linked l start) view
              ∙ run_more p (steps_view f) (initializer_view i) start s t (r.runs p (back p e)) (stepped p e)
              (is_within_counts g ms h t p counted e);
          traced = λ p e.
              ap (λ (l : List plan.Initializer). trace_from p all_linked l start) view
              ∙ trace_more p (steps_view f) (initializer_view i) start s t trace (r.runs p (back p e))
              (r.traced p (back p e)) (stepped p e) (is_within_counts g ms h t p counted e)
              ∙ ap Some (ap (λ (l : List (Entry Mark)). trace ++ l) (gains_nothing s t gains) ∙ append-nil trace);
          placed = placed;
          filled = filled;
          resolves = resolves;
        };
        gains = gains;
      }

module _ (g : ComponentDfg) (ms : List ModuleTranslation) (f h : Finish) (s : State Mark) where
  -- what was reached is reached without a step too
  pub grown_still : (trace : List (Entry Mark)) → h.steps ≡ f.steps
      → ((p : plan.PlanView Mark) → Extends g ms h p → Extends g ms f p) → Placed g h s → Filled g h s
      → Resolves g ms h s → Reached g ms f s trace → Grown g ms h s trace
  grown_still trace steps back placed filled resolves r =
      let view : steps_view h ≡ steps_view f = ap (map initializer_view) steps in
      record {
        state = s;
        reached = record {
          runs = λ p e.
              ap (λ (l : List plan.Initializer). run_from p all_linked l start) view ∙ r.runs p (back p e);
          traced = λ p e.
              ap (λ (l : List plan.Initializer). trace_from p all_linked l start) view ∙ r.traced p (back p e);
          placed = placed;
          filled = filled;
          resolves = resolves;
        };
        gains = gains_refl s;
      }

module _ (g : ComponentDfg) (f h : Finish) where
  -- a plan is made further by a step that is no side effect
  pub continues_step : (i : GlobalInitializer) → CountsOne f h i → is_side_effect (initializer_view i) ≡ false
      → ((y : Id) → HasNumber f y → HasNumber h y) → Stay f h → Fits g h → h.instances ≡ f.instances
      → h.resources ≡ f.resources
      → (Fills f → Fills h) → (Represents g f → Represents g h)
      → (CountsSteps f → Fills f → Fills h → AreSteps g f → AreSteps g h) → length h.options ≤ length f.options + 1
      → length h.trampolines ≤ length f.trampolines + 1 → Continues g f h
  continues_step i one quiet numbered stay fits instances resources fills represents are options trampolines = record {
    counts = counts_more f h i one;
    numbered = numbered;
    stay = stay;
    fits = fits;
    instances = instances;
    resources = resources;
    steps = record {
      more = i ∷ [];
      is = one.steps;
      quiet = All-cons (λ (j : GlobalInitializer). is_side_effect (initializer_view j) ≡ false) i [] quiet
          (All-nil (λ (j : GlobalInitializer). is_side_effect (initializer_view j) ≡ false));
    };
    fills = fills;
    represents = represents;
    are_steps = λ c h is. are c h (fills h) is;
    passed = λ sound passed.
        passes g f h
        (record {
          stay = stay;
          more = i ∷ [];
          steps = one.steps;
          made = [];
          instances = instances ∙ sym (append-nil f.instances);
        })
        (record {
          counts = counts_more f h i one sound.counts;
          fills = fills sound.fills;
          represents = represents sound.represents;
          are_steps = are sound.counts sound.fills (fills sound.fills) sound.are_steps;
        })
        options trampolines passed;
  }

  -- and without a step it was what it was
  pub passed_still : Stay f h → h.steps ≡ f.steps → h.instances ≡ f.instances → (CountsSteps f → CountsSteps h)
      → (Fills f → Fills h) → (Represents g f → Represents g h) → (Fills f → AreSteps g f → AreSteps g h)
      → length h.options ≤ length f.options + 1 → length h.trampolines ≤ length f.trampolines + 1 → IsSound g f
      → HasPassed g f → HasPassed g h
  passed_still stay steps instances counts fills represents are options trampolines sound passed =
      passes g f h
      (record {
        stay = stay;
        more = [];
        steps = steps ∙ sym (append-nil f.steps);
        made = [];
        instances = instances ∙ sym (append-nil f.instances);
      })
      (record {
        counts = counts sound.counts;
        fills = fills sound.fills;
        represents = represents sound.represents;
        are_steps = are sound.fills sound.are_steps;
      })
      options trampolines passed

  -- no steps are none that are side effects
  pub no_steps : h.steps ≡ f.steps → AddsSteps f h
  no_steps same = record {
    more = [];
    is = same ∙ sym (append-nil f.steps);
    quiet = All-nil (λ (j : GlobalInitializer). is_side_effect (initializer_view j) ≡ false);
  }
