-- The core instances that a run has in the end are those of its trace.
use Rattle.std.proofs.Common.{◌≡◌, ◌++◌, Bool, true, false, List, [], ◌∷◌, length, map, drop, Option, None, Some}
use Rattle.std.proofs.Common.{refl, sym, ap, ◌∙◌}
use Rattle.std.specs.Prelude.{option_and_then, option_map, if◌then◌else◌}
use Rattle.std.specs.List.{filter_map}
use Rattle.std.proofs.Math.Seq.{drop-append_seam}
use Rattle.std.proofs.lemmas.List.{append-nil, append_assoc}
use Rattle.std.proofs.lemmas.List.Elements.{filter_map-append}
use Rattle.std.proofs.lemmas.Option.{none-some, same_Some}
use Rattle.pc_entity.specs.Lists.{map_all}
use Rattle.pc_spec_plan.specs.CoreValue.{CoreValue}
use Rattle.pc_spec_plan.specs.Log.{Entry, NamedArgument, Owned, instances_of, of_host, of_static}
use Rattle.pc_spec_plan.specs.Log as log
use Rattle.pc_spec_plan.specs.Machine.{State, RuntimeInstance, DeclaredResource}
use Rattle.pc_spec_plan.specs.Machine.{fill}
use Rattle.pc_spec_plan.specs.Machine.{is_within, module_at, owned_instances, owned_of, path_of, resolve}
use Rattle.pc_spec_plan.specs.Machine.{resolve_maybe}
use Rattle.pc_spec_plan.specs.Machine.{resolve_named, run_from, step}
use Rattle.pc_spec_plan.specs.PlanView as plan
use Rattle.pc_spec_plan.specs.Trace.{gained, instance_entry, resource_entry, trace_from}
use Rattle.pc_trampoline.specs.declared.part.Mark.{Mark}
use Rattle.pc_dfg_linearize.specs.Reached.{all_linked}
use Rattle.pc_dfg_linearize.proofs.GainLemmas.{behind_map, behind_then}

-- under a test that answers, what stands behind it
behind_if : {A : Type 0} (b : Bool) (x y : A) → (if b then Some x else None) ≡ Some y → x ≡ y
behind_if true x y h = same_Some x y h
behind_if false x y h = absurd (none-some y h)

-- a state has the instances of an earlier one, and more
abbrev AddsInstances : State Mark → State Mark → Type 0
AddsInstances s t = (more : List (RuntimeInstance Mark)) × (t.instances ≡ s.instances ++ more)

module _ (s t : State Mark) where
  -- none more
  same_instances : (u : State Mark) → u.instances ≡ s.instances → u ≡ t → AddsInstances s t
  same_instances u same is = ([], sym (ap (λ (v : State Mark). v.instances) is) ∙ same ∙ sym (append-nil s.instances))

  -- one more
  one_instance : (m : RuntimeInstance Mark) → record s { instances = s.instances ++ m ∷ [] } ≡ t → AddsInstances s t
  one_instance m is = (m ∷ [], sym (ap (λ (v : State Mark). v.instances) is))

fill_instances : (s : State Mark) (k : plan.SlotKind) (v : CoreValue Mark) → (fill s k v).instances ≡ s.instances
fill_instances s plan.memory v = refl
fill_instances s plan.table v = refl
fill_instances s plan.realloc v = refl
fill_instances s plan.callback v = refl
fill_instances s plan.post_return v = refl

module _ (p : plan.PlanView Mark) where
  -- a step only adds instances
  step_adds : (s t : State Mark) (i : plan.Initializer) → step p all_linked s i ≡ Some t → AddsInstances s t
  step_adds s t (plan.instantiate_static m args c) h =
      let core = behind_then _ (module_at p m) t h in
      let vs = behind_then _ (map_all (resolve p s) args) t core.2 in
      one_instance s t _ (behind_if _ _ t vs.2)
  step_adds s t (plan.instantiate_import r args None) h = absurd (none-some t h)
  step_adds s t (plan.instantiate_import r args (Some c)) h =
      let path = behind_then _ (path_of p r) t h in
      let vs = behind_then _ (map_all (resolve_named p s) args) t path.2 in
      one_instance s t _ (behind_if _ _ t vs.2)
  step_adds s t (plan.lower_import index r) h =
      let path = behind_then _ (path_of p r) t h in
      same_instances s t _ refl (behind_if _ _ t path.2)
  step_adds s t (plan.extract k index d) h =
      let v = behind_then _ (resolve p s d) t h in
      same_instances s t (fill s k v.0) (fill_instances s k v.0) (behind_if _ (fill s k v.0) t v.2)
  step_adds s t (plan.declare_resource index representation d c) h =
      let v = behind_then _ (resolve_maybe p s d) t h in
      same_instances s t _ refl (behind_if _ _ t v.2)

  -- the instances in a trace of instances and resources
  of_instances : (ms : List (RuntimeInstance Mark)) (rs : List (DeclaredResource Mark))
      → instances_of (map instance_entry (filter_map owned_of ms) ++ map resource_entry rs) ≡ filter_map owned_of ms
  of_instances ms rs =
      filter_map-append log.owned_of (map instance_entry (filter_map owned_of ms)) (map resource_entry rs)
      ∙ (λ i. owned (filter_map owned_of ms) i ++ none rs i) ∙ append-nil (filter_map owned_of ms)
    where
      owned : (os : List (Owned Mark)) → filter_map log.owned_of (map instance_entry os) ≡ os
      owned [] = refl
      owned (o ∷ os) = ap (λ l. o ∷ l) (owned os)

      none : (qs : List (DeclaredResource Mark)) → filter_map log.owned_of (map resource_entry qs) ≡ []
      none [] = refl
      none (q ∷ qs) = none qs

  -- what a step gained are the instances that it added
  gained_owned : (s t : State Mark) → AddsInstances s t
      → owned_instances t ≡ owned_instances s ++ instances_of (gained s t)
  gained_owned s t adds =
      let new : drop (length s.instances) t.instances ≡ adds.0 =
      ap (drop (length s.instances)) adds.1 ∙ drop-append_seam s.instances adds.0 in
      let rs = drop (length s.resources) t.resources in
      ap (filter_map owned_of) adds.1 ∙ filter_map-append owned_of s.instances adds.0
      ∙ ap (λ l. owned_instances s ++ l) (sym (of_instances adds.0 rs)
      ∙ ap (λ (l : List (RuntimeInstance Mark)). instances_of (map instance_entry (filter_map owned_of l)
      ++ map resource_entry rs)) (sym new))

  -- a run of these steps up to this state has in the end what it had, and the instances of its trace
  abbrev Owns : List plan.Initializer → State Mark → Type 0
  Owns is t =
      (n : State Mark) (rest : List (Entry Mark)) → run_from p all_linked is n ≡ Some t
      → trace_from p all_linked is n ≡ Some rest → owned_instances t ≡ owned_instances n ++ instances_of rest

  -- each run does
  pub run_owned : (is : List plan.Initializer) (s t : State Mark) (trace : List (Entry Mark))
      → run_from p all_linked is s ≡ Some t → trace_from p all_linked is s ≡ Some trace
      → owned_instances t ≡ owned_instances s ++ instances_of trace
  run_owned [] s t trace run did =
      let same : s ≡ t = same_Some s t run in
      let none : [] ≡ trace = same_Some [] trace did in
      sym (ap owned_instances same) ∙ sym (append-nil (owned_instances s))
      ∙ ap (λ (l : List (Entry Mark)). owned_instances s ++ instances_of l) none
  run_owned (i ∷ is) s t trace run did =
      by (step p all_linked s i) refl run did (λ n rest h d. run_owned is n t rest h d)
    where
      here : (n : State Mark) → step p all_linked s i ≡ Some n → (b : Bool)
          → (if b then run_from p all_linked is n else None) ≡ Some t
          → (if b then option_map (λ (rest : List (Entry Mark)). gained s n ++ rest) (trace_from p all_linked is n)
          else None) ≡ Some trace → Owns is t → owned_instances t ≡ owned_instances s ++ instances_of trace
      here n goes false h d later = absurd (none-some t h)
      here n goes true h d later =
          let rest = behind_map (λ (more : List (Entry Mark)). gained s n ++ more) (trace_from p all_linked is n)
          trace d in
          later n rest.0 h rest.1 ∙ ap (λ l. l ++ instances_of rest.0) (gained_owned s n (step_adds s n i goes))
          ∙ append_assoc (owned_instances s) (instances_of (gained s n)) (instances_of rest.0)
          ∙ ap (λ l. owned_instances s ++ l) (sym (filter_map-append log.owned_of (gained s n) rest.0)
          ∙ ap instances_of rest.2)

      by : (o : Option (State Mark)) → step p all_linked s i ≡ o
          → option_and_then (λ (n : State Mark). if is_within p n then run_from p all_linked is n else None) o ≡ Some t
          → option_and_then (λ (n : State Mark). if is_within p n
          then option_map (λ (rest : List (Entry Mark)). gained s n ++ rest) (trace_from p all_linked is n) else None) o
          ≡ Some trace → Owns is t → owned_instances t ≡ owned_instances s ++ instances_of trace
      by None e h d later = absurd (none-some t h)
      by (Some n) e h d later = here n e (is_within p n) h d later
