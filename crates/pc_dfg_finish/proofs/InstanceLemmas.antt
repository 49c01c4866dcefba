-- A run that makes one more core instance for a component instance.
use Rattle.std.proofs.Common.{◌≡◌, ◌≤◌, ◌+◌, ◌++◌, inl, inr, ℕ, Bool, List, [], ◌∷◌, length}
use Rattle.std.proofs.Common.{Some, refl, sym, ap, subst, ◌∙◌, arith}
use Rattle.std.specs.Prelude.{count_by, is_some, slice_get}
use Rattle.std.proofs.Math.Seq.{drop-append_seam}
use Rattle.std.proofs.lemmas.List.{map-append, take-append-le}
use Rattle.std.proofs.lemmas.Option.{slice_get_within}
use Rattle.pc_entity.proofs.Growing.{slice_get-append, slice_get-append_seam}
use Rattle.pc_numbers.specs.declared.runtime.RuntimeComponentInstanceIndex.{RuntimeComponentInstanceIndex}
use Rattle.pc_numbers.specs.declared.runtime.RuntimeInstanceIndex.{RuntimeInstanceIndex}
use Rattle.pc_spec_plan.specs.Log.{Entry, Instantiation, instantiated}
use Rattle.pc_spec_plan.specs.Machine.{State, RuntimeInstance, add_instance, owned_before, start, step}
use Rattle.pc_spec_plan.specs.PlanView as plan
use Rattle.pc_spec_plan.specs.Trace.{gained}
use Rattle.pc_trampoline.specs.declared.part.Mark.{Mark}
use Rattle.pc_info.specs.declared.initializer.GlobalInitializer.TheVariants as init
use Rattle.pc_info.specs.declared.initializer.InstantiateModule.{InstantiateModule}
use Rattle.pc_info.specs.declared.module.ModuleTranslation.{ModuleTranslation}
use Rattle.pc_info.specs.Definitions.{initializer_view, source_view}
use Rattle.pc_dfg.specs.declared.dfg.ComponentDfg.{ComponentDfg}
use Rattle.pc_dfg.specs.declared.instance.Instance.{Instance}
use Rattle.pc_dfg.specs.Effects.{MeansInstance}
use Rattle.pc_dfg_linearize.specs.declared.state.Finish.{Finish}
use Rattle.pc_dfg_linearize.specs.Made.{with_instance}
use Rattle.pc_dfg_linearize.specs.Plan.{Extends, steps_view}
use Rattle.pc_dfg_linearize.specs.Reached.{Placed, Reached, all_linked}
use Rattle.pc_dfg_linearize.proofs.CountLemmas.{count_by-push}
use Rattle.pc_dfg_finish.proofs.HereLemmas.{drop_whole, extends_before, filled_here, resolves_here}
use Rattle.pc_dfg_finish.proofs.PushedLemmas.{length_pushed, pushed_cases, take_whole}
use Rattle.pc_dfg_linearize.proofs.StepLemmas.{IsCounted, is_within_counts, run_more, trace_more}

-- whether an instance was made for a component instance
abbrev is_owned : RuntimeInstance Mark → Bool
is_owned m = is_some m.component_instance

module _ (s : State Mark) (v : Instantiation Mark) (c : ℕ) where
  -- the instance
  abbrev made : RuntimeInstance Mark
  made = record { instantiation = v; component_instance = Some c }

  -- what is done by that
  one_gained : gained s (add_instance s v (Some c)) ≡ instantiated v c ∷ []
  one_gained = rw (drop-append_seam s.instances (made ∷ []), drop_whole s.resources) refl

  -- the instances before those that were there
  before_here : (n : ℕ) → n ≤ length s.instances → owned_before (add_instance s v (Some c)) n ≡ owned_before s n
  before_here n within = ap (count_by is_owned) (take-append-le n s.instances (made ∷ []) within)

  -- one more is owned
  one_owned : owned_before (add_instance s v (Some c)) (length (s.instances ++ made ∷ []))
      ≡ owned_before s (length s.instances) + 1
  one_owned =
      ap (count_by is_owned) (take_whole (s.instances ++ made ∷ [])) ∙ count_by-push is_owned s.instances made
      ∙ ap (λ (ms : List (RuntimeInstance Mark)). count_by is_owned ms + 1) (sym (take_whole s.instances))

module _ (g : ComponentDfg) (f : Finish) (s : State Mark) (m : InstantiateModule) (c : RuntimeComponentInstanceIndex)
    (x : Instance) (v : Instantiation Mark) (at : slice_get g.instances (length f.instances) ≡ Some x)
    (means : MeansInstance g x v) where
  abbrev later : Finish
  later = with_instance f m c

  abbrev then_ : State Mark
  then_ = add_instance s v (Some c.0)

  module _ (placed : Placed g f s) where
    -- the number of the new instance is the next
    last_here : slice_get (s.instances ++ made s v c.0 ∷ []) f.counts.instances ≡ Some (made s v c.0)
    last_here =
        subst (λ n. slice_get (s.instances ++ made s v c.0 ∷ []) n ≡ Some (made s v c.0)) placed.count
        (slice_get-append_seam s.instances (made s v c.0) [])

    last_before : owned_before then_ f.counts.instances ≡ length f.instances
    last_before =
        ap (owned_before then_) (sym placed.count) ∙ before_here s v c.0 (length s.instances) (omega arith)
        ∙ placed.next

    -- where a core instance of the graph is
    IsPlaced : ℕ → RuntimeInstanceIndex → Type 0
    IsPlaced k n = (m : RuntimeInstance Mark) × (c : ℕ) × (x : Instance) × (slice_get then_.instances n.0 ≡ Some m)
        × (m.component_instance ≡ Some c) × (owned_before then_ n.0 ≡ k) × (slice_get g.instances k ≡ Some x)
        × MeansInstance g x m.instantiation

    old_placed : (k : ℕ) (n : RuntimeInstanceIndex) → slice_get f.instances k ≡ Some n → IsPlaced k n
    unfolding IsPlaced
    old_placed k n there =
        let q = placed.instance k n there in
        let within = slice_get_within s.instances n.0 q.0 q.3 in (
          q.0,
          q.1,
          q.2,
          slice_get-append s.instances (made s v c.0 ∷ []) n.0 q.0 q.3,
          q.4,
          before_here s v c.0 n.0 (omega (arith, within)) ∙ q.5,
          q.6,
          q.7,
        )

    new_placed : (k : ℕ) (n : RuntimeInstanceIndex) → k ≡ length f.instances → record { 0 = f.counts.instances } ≡ n
        → IsPlaced k n
    unfolding IsPlaced
    new_placed k n first number = (
      made s v c.0,
      c.0,
      x,
      subst (λ (i : RuntimeInstanceIndex). slice_get then_.instances i.0 ≡ Some (made s v c.0)) number last_here,
      refl,
      ap (λ (i : RuntimeInstanceIndex). owned_before then_ i.0) (sym number) ∙ last_before ∙ sym first,
      ap (slice_get g.instances) first ∙ at,
      means,
    )

    pub placed_more : Placed g later then_
    unfolding IsPlaced
    placed_more = record {
      count = length_pushed s.instances (made s v c.0) ∙ ap (λ n. n + 1) placed.count;
      next = one_owned s v c.0 ∙ ap (λ n. n + 1) placed.next
          ∙ sym (length_pushed f.instances (record { 0 = f.counts.instances }));
      instance = λ k n there.
          elim (pushed_cases f.instances (record { 0 = f.counts.instances }) k n there) as (λ _. IsPlaced k n) [
            | inl old ↦ old_placed k n old
            | inr new ↦ new_placed k n new.0 new.1
          ];
      adapter_module = λ k n there.
          let q = placed.adapter_module k n there in
          (q.0, q.1, q.2, q.3, slice_get-append s.instances (made s v c.0 ∷ []) n _ q.4);
    }

  module _ (ms : List ModuleTranslation) (trace : List (Entry Mark)) (reached : Reached g ms f s trace)
      (goes : (p : plan.PlanView Mark) → Extends g ms f p
      → step p all_linked s (source_view m (Some c)) ≡ Some then_) where
    counted : IsCounted later then_
    counted =
        let filled = filled_here g f later.steps later.instances (f.counts.instances + 1) f.resources s then_.instances
        s.resources reached.filled.resources reached.filled in
        record {
          instances = (placed_more reached.placed).count;
          lowerings = filled.lowerings;
          slots = filled.slots;
          resources = filled.resources;
        }

    before : (p : plan.PlanView Mark) → Extends g ms later p → Extends g ms f p
    before p extends =
        extends_before g f later.steps later.instances (f.counts.instances + 1) f.resources ms p (omega arith)
        (omega arith)
        extends

    steps_later : steps_view later ≡ steps_view f ++ source_view m (Some c) ∷ []
    steps_later = map-append initializer_view f.steps (init.InstantiateModule m (Some c) ∷ [])

    -- the run goes on by the instance
    pub instance_reached : Reached g ms later then_ (trace ++ instantiated v c.0 ∷ [])
    instance_reached = record {
      runs = λ p extends.
          rw steps_later (run_more p (steps_view f) (source_view m (Some c)) start s then_
          (reached.runs p (before p extends)) (goes p (before p extends))
          (is_within_counts g ms later then_ p counted extends));
      traced = λ p extends.
          rw (steps_later, ← one_gained s v c.0)
          (trace_more p (steps_view f) (source_view m (Some c)) start s then_ trace
          (reached.runs p (before p extends)) (reached.traced p (before p extends)) (goes p (before p extends))
          (is_within_counts g ms later then_ p counted extends));
      placed = placed_more reached.placed;
      filled = filled_here g f later.steps later.instances (f.counts.instances + 1) f.resources s then_.instances
          s.resources reached.filled.resources reached.filled;
      resolves = resolves_here g f later.steps later.instances (f.counts.instances + 1) f.resources s then_.instances
          s.resources ms (omega arith) (omega arith) reached.resolves;
    }
