-- A run that declares one more resource.
use Rattle.std.proofs.Common.{◌≡◌, ◌≤◌, ◌<◌, ◌+◌, ◌++◌, ℕ, List, [], ◌∷◌, length, All, Option}
use Rattle.std.proofs.Common.{Some, refl, sym, ap, ◌∙◌, arith, eq-eqb}
use Rattle.std.specs.Prelude.{option_map}
use Rattle.std.proofs.Math.Seq.{drop-append_seam}
use Rattle.std.proofs.lemmas.List.{map-append}
use Rattle.pc_entity.proofs.Elements.{true_and}
use Rattle.pc_types.specs.declared.parsed.WasmValType.{WasmValType}
use Rattle.pc_spec_plan.specs.CoreValue.{MaybeValue, a_value}
use Rattle.pc_spec_plan.specs.Log.{Entry, declared_resource}
use Rattle.pc_spec_plan.specs.Machine.{State, DeclaredResource, resolve_maybe, start, step}
use Rattle.pc_spec_plan.specs.PlanView as plan
use Rattle.pc_spec_plan.specs.Trace.{gained}
use Rattle.pc_trampoline.specs.declared.part.Mark.{Mark}
use Rattle.pc_info.specs.declared.initializer.GlobalInitializer.TheVariants as init
use Rattle.pc_info.specs.declared.initializer.Resource.{Resource as PlanResource}
use Rattle.pc_info.specs.declared.module.ModuleTranslation.{ModuleTranslation}
use Rattle.pc_info.specs.Definitions.{def_view, initializer_view, resource_view}
use Rattle.pc_dfg.specs.declared.core_def.CoreDef.{CoreDef}
use Rattle.pc_dfg.specs.declared.dfg.ComponentDfg.{ComponentDfg}
use Rattle.pc_dfg.specs.Means.{MeansMaybe, means_none, means_some}
use Rattle.pc_dfg.specs.Names.{if_any}
use Rattle.pc_dfg_linearize.specs.declared.state.Finish.{Finish}
use Rattle.pc_dfg_linearize.specs.Converted.{def_in}
use Rattle.pc_dfg_linearize.specs.Made.{with_resource}
use Rattle.pc_dfg_linearize.specs.Plan.{Extends, steps_view}
use Rattle.pc_dfg_linearize.specs.Reached.{Reached, all_linked}
use Rattle.pc_dfg_linearize.specs.Wired.{IsWired}
use Rattle.pc_dfg_linearize.proofs.AllLemmas.{all_first}
use Rattle.pc_dfg_finish.proofs.HereLemmas.{drop_whole, extends_before, filled_here, resolves_here}
use Rattle.pc_dfg_finish.proofs.PushedLemmas.{length_pushed}
use Rattle.pc_dfg_finish.proofs.ResolveLemmas.{Resolves, counted_here}
use Rattle.pc_dfg_linearize.proofs.StepLemmas.{IsCounted, is_within_counts, run_more, trace_more}

-- a destructor resolves to its value
maybe_resolves : {g : ComponentDfg} {ms : List ModuleTranslation} {f : Finish} {s : State Mark}
    {trace : List (Entry Mark)} {p : plan.PlanView Mark} (wired : IsWired g ms) (reached : Reached g ms f s trace)
    (extends : Extends g ms f p) {o : Option CoreDef} {v : MaybeValue Mark} → MeansMaybe g o v
    → All (Resolves wired reached extends) (if_any o)
    → resolve_maybe p s (option_map def_view (option_map (def_in g f) o)) ≡ Some v
maybe_resolves wired reached extends means_none all = refl
maybe_resolves wired reached extends (means_some {d = d} {v = v} m) all =
    ap (option_map a_value) (all_first (Resolves wired reached extends) d [] all v m)

module _ (s : State Mark) (rep : WasmValType) (v : MaybeValue Mark) (c : ℕ) where
  -- the resource
  abbrev declared : DeclaredResource Mark
  declared = record { representation = rep; destructor = v; component_instance = c }

  -- a state that has it
  abbrev pub declare : State Mark
  declare = record s { resources = s.resources ++ declared ∷ [] }

  -- what is done by that
  one_gained : gained s declare ≡ declared_resource rep v c ∷ []
  one_gained = rw (drop_whole s.instances, drop-append_seam s.resources (declared ∷ [])) refl

  -- the step
  pub resource_goes : {g : ComponentDfg} {ms : List ModuleTranslation} {f : Finish} {trace : List (Entry Mark)}
      {p : plan.PlanView Mark} (wired : IsWired g ms) (reached : Reached g ms f s trace) (extends : Extends g ms f p)
      (n : ℕ) (o : Option CoreDef) → n ≡ length f.resources → c < g.num_runtime_component_instances → MeansMaybe g o v
      → All (Resolves wired reached extends) (if_any o)
      → step p all_linked s (plan.declare_resource n rep (option_map def_view (option_map (def_in g f) o)) c)
      ≡ Some declare
  resource_goes wired reached extends n o next within means all =
      let long = reached.filled.resources in
      let fit = true_and _ _ (eq-eqb n (length s.resources) (next ∙ sym long))
      (counted_here wired reached extends c within) in
      rw (maybe_resolves wired reached extends means all, fit) refl

module _ (g : ComponentDfg) (ms : List ModuleTranslation) (f : Finish) (s : State Mark) (trace : List (Entry Mark))
    (r : PlanResource) (v : MaybeValue Mark) (reached : Reached g ms f s trace)
    (goes : (p : plan.PlanView Mark) → Extends g ms f p
    → step p all_linked s (resource_view r) ≡ Some (declare s r.rep v r.instance.0)) where
  abbrev later : Finish
  later = with_resource f r

  abbrev then_ : State Mark
  then_ = declare s r.rep v r.instance.0

  same_length : length then_.resources ≡ length later.resources
  same_length =
      length_pushed s.resources (declared s r.rep v r.instance.0) ∙ ap (λ n. n + 1) reached.filled.resources
      ∙ sym (length_pushed f.resources r.instance)

  longer : length f.resources ≤ length later.resources
  longer = let long = length_pushed f.resources r.instance in omega arith

  counted : IsCounted later then_
  counted =
      let filled = filled_here g f later.steps later.instances f.counts.instances later.resources s s.instances
      then_.resources same_length reached.filled in
      record {
        instances = reached.placed.count;
        lowerings = filled.lowerings;
        slots = filled.slots;
        resources = same_length;
      }

  before : (p : plan.PlanView Mark) → Extends g ms later p → Extends g ms f p
  before p extends =
      extends_before g f later.steps later.instances f.counts.instances later.resources ms p (omega arith) longer
      extends

  steps_later : steps_view later ≡ steps_view f ++ resource_view r ∷ []
  steps_later = map-append initializer_view f.steps (init.Resource r ∷ [])

  -- the run goes on by the resource
  pub resource_reached : Reached g ms later then_ (trace ++ declared_resource r.rep v r.instance.0 ∷ [])
  resource_reached = record {
    runs = λ p extends.
        rw steps_later (run_more p (steps_view f) (resource_view r) start s then_ (reached.runs p (before p extends))
        (goes p (before p extends)) (is_within_counts g ms later then_ p counted extends));
    traced = λ p extends.
        rw (steps_later, ← one_gained s r.rep v r.instance.0)
        (trace_more p (steps_view f) (resource_view r) start s then_
        trace (reached.runs p (before p extends)) (reached.traced p (before p extends)) (goes p (before p extends))
        (is_within_counts g ms later then_ p counted extends));
    placed = record {
      count = reached.placed.count;
      next = reached.placed.next;
      instance = reached.placed.instance;
      adapter_module = reached.placed.adapter_module;
    };
    filled = filled_here g f later.steps later.instances f.counts.instances later.resources s s.instances
        then_.resources same_length reached.filled;
    resolves = resolves_here g f later.steps later.instances f.counts.instances later.resources s s.instances
        then_.resources ms (omega arith) longer reached.resolves;
  }
