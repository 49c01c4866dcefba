-- The resources of a run are those of its trace.
use Rattle.std.proofs.Common.{◌≡◌, ◌&&◌, ◌==◌, ℕ, Bool, true, false, List, [], ◌∷◌, ◌++◌, Option, None, Some, IfSome}
use Rattle.std.proofs.Common.{map}
use Rattle.std.proofs.Common.{refl, sym, subst, length, drop, if◌then◌else◌, append-nil, option_and_then}
use Rattle.std.specs.Prelude.{All, filter_map, option_map}
use Rattle.std.proofs.lemmas.List.Elements.{All-append, All-cons, All-head, All-nil, All-tail}
use Rattle.std.proofs.lemmas.Option.{none-some, same_Some}
use Rattle.pc_entity.specs.Lists.{map_all}
use Rattle.pc_spec_plan.specs.CoreValue.{CoreValue}
use Rattle.pc_spec_plan.specs.Log.{Entry, of_host, of_static}
use Rattle.pc_spec_plan.specs.Machine.{DeclaredResource, State, add_instance, can_make, fill, fits, is_counted}
use Rattle.pc_spec_plan.specs.Machine.{is_within, module_at, owned_of, path_of, resolve, resolve_maybe, resolve_named}
use Rattle.pc_spec_plan.specs.Machine.{run, run_from, slots_of, start, step}
use Rattle.pc_spec_plan.specs.PlanView as plan
use Rattle.pc_spec_plan.specs.PlanView.{Initializer, PlanView, SlotKind}
use Rattle.pc_spec_plan.specs.Trace.{gained, instance_entry, resource_entry, run_trace, trace_from}
use Rattle.pc_confined.proofs.MarkLemmas.{all_unmap}
use Rattle.pc_confined.proofs.Steps.{each_some, test_some}

-- behind a list its items are dropped
dropped : {A : Type 0} (xs ys : List A) → drop (length xs) (xs ++ ys) ≡ ys
dropped [] ys = refl
dropped (x ∷ xs) ys = dropped xs ys

-- what is true of all of two lists is true of all of the second, and of the first
all_behind : {A : Type 0} (P : A → Type 0) (xs ys : List A) → All P (xs ++ ys) → All P ys
all_behind P [] ys h = h
all_behind P (x ∷ xs) ys h = all_behind P xs ys (All-tail P x (xs ++ ys) h)

all_before : {A : Type 0} (P : A → Type 0) (xs ys : List A) → All P (xs ++ ys) → All P xs
all_before P [] ys h = All-nil P
all_before P (x ∷ xs) ys h =
    All-cons P x xs (All-head P x (xs ++ ys) h) (all_before P xs ys (All-tail P x (xs ++ ys) h))

module _ {τ : Type 0} (p : PlanView τ) where
  -- a state has the resources of an earlier one, and perhaps more behind them
  record KeepsResources (s next : State τ) : Type 0 where
    more : List (DeclaredResource τ)
    is : next.resources ≡ s.resources ++ more

  none_more : (s : State τ) → s.resources ≡ s.resources ++ []
  none_more s = sym (append-nil s.resources)

  filled : (s : State τ) (k : SlotKind) (v : CoreValue τ) → KeepsResources s (fill s k v)
  filled s plan.memory v = record { more = []; is = none_more s }
  filled s plan.table v = record { more = []; is = none_more s }
  filled s plan.realloc v = record { more = []; is = none_more s }
  filled s plan.callback v = record { more = []; is = none_more s }
  filled s plan.post_return v = record { more = []; is = none_more s }

  module _ (linked : ℕ → Bool) where
    -- so it is after a step
    step_keeps : (s : State τ) (i : Initializer) → IfSome (step p linked s i) (KeepsResources s)
    step_keeps s (plan.instantiate_static m args c) =
        each_some (KeepsResources s) _ (module_at p m) (λ core.
        each_some (KeepsResources s) _ (map_all (resolve p s) args) (λ vs.
        test_some (KeepsResources s) (can_make p core (length vs) c) (Some (add_instance s (of_static m vs) c))
        (record { more = []; is = none_more s })))
    step_keeps s (plan.instantiate_import r args None) = tt
    step_keeps s (plan.instantiate_import r args (Some c)) =
        each_some (KeepsResources s) _ (path_of p r) (λ path.
        each_some (KeepsResources s) _ (map_all (resolve_named p s) args) (λ vs.
        test_some (KeepsResources s) (linked r && is_counted p c) (Some (add_instance s (of_host path vs) (Some c)))
        (record { more = []; is = none_more s })))
    step_keeps s (plan.lower_import index r) =
        each_some (KeepsResources s) _ (path_of p r) (λ path.
        test_some (KeepsResources s) (linked r && index == length s.lowerings) _
        (record { more = []; is = none_more s }))
    step_keeps s (plan.extract k index d) =
        each_some (KeepsResources s) _ (resolve p s d) (λ v.
        test_some (KeepsResources s) (fits k d && index == length (slots_of s k)) (Some (fill s k v)) (filled s k v))
    step_keeps s (plan.declare_resource index representation d c) =
        each_some (KeepsResources s) _ (resolve_maybe p s d) (λ v.
        test_some (KeepsResources s) (index == length s.resources && is_counted p c) _
        (record { more = _ ∷ []; is = refl }))

    module _ (P : Entry τ → Type 0) where
      -- P of a resource, as an entry
      abbrev IsSo : DeclaredResource τ → Type 0
      IsSo r = P (resource_entry r)

      -- of the resources of the next state too, where it is of those of this one and of what was gained
      gained_all : (s next : State τ) → KeepsResources s next → All IsSo s.resources → All P (gained s next)
          → All IsSo next.resources
      gained_all s next keeps before new =
          let instances = map instance_entry (filter_map owned_of (drop (length s.instances) next.instances)) in
          let behind : All IsSo (drop (length s.resources) next.resources) =
          all_unmap P resource_entry (drop (length s.resources) next.resources)
          (all_behind P instances (map resource_entry (drop (length s.resources) next.resources)) new) in
          let more : All IsSo keeps.more =
          subst (All IsSo) (dropped s.resources keeps.more)
          (subst (λ rs. All IsSo (drop (length s.resources) rs)) keeps.is behind) in
          subst (All IsSo) (sym keeps.is) (All-append IsSo s.resources keeps.more before more)

      -- of all resources in the end, where it is of the trace
      abbrev AllTraced : List Initializer → Type 0
      AllTraced is = (s : State τ) (entries : List (Entry τ)) → trace_from p linked is s ≡ Some entries → All P entries
          → All IsSo s.resources → IfSome (run_from p linked is s) (λ (last : State τ). All IsSo last.resources)

      traced_all : (is : List Initializer) → AllTraced is
      traced_all [] s entries traced all before = before
      traced_all (i ∷ is) s entries traced all before =
          by (traced_all is) (step p linked s i) (step_keeps s i) traced
        where
          rest_all : AllTraced is → (next : State τ) → KeepsResources s next → (o : Option (List (Entry τ)))
              → trace_from p linked is next ≡ o
              → option_map (λ (rest : List (Entry τ)). gained s next ++ rest) o ≡ Some entries
              → IfSome (run_from p linked is next) (λ (last : State τ). All IsSo last.resources)
          rest_all onward next keeps None at same = absurd (none-some entries same)
          rest_all onward next keeps (Some rest) at same =
              let both : All P (gained s next ++ rest) =
              subst (All P) (sym (same_Some (gained s next ++ rest) entries same)) all in
              onward next rest at (all_behind P (gained s next) rest both)
              (gained_all s next keeps before (all_before P (gained s next) rest both))

          within : AllTraced is → (next : State τ) → KeepsResources s next → (b : Bool)
              → (if b then option_map (λ (rest : List (Entry τ)). gained s next ++ rest) (trace_from p linked is next)
              else None) ≡ Some entries
              → IfSome (if b then run_from p linked is next else None) (λ (last : State τ). All IsSo last.resources)
          within onward next keeps true same = rest_all onward next keeps (trace_from p linked is next) refl same
          within onward next keeps false same = tt

          by : AllTraced is → (o : Option (State τ)) → IfSome o (KeepsResources s)
              → option_and_then (λ (next : State τ). if is_within p next
              then option_map (λ (rest : List (Entry τ)). gained s next ++ rest) (trace_from p linked is next)
              else None) o ≡ Some entries
              → IfSome
              (option_and_then (λ (next : State τ). if is_within p next then run_from p linked is next else None) o)
              (λ (last : State τ). All IsSo last.resources)
          by onward None keeps same = tt
          by onward (Some next) keeps same = within onward next keeps (is_within p next) same

  -- what is true of each entry of a run's trace is true of each resource in the end
  pub resources_all : (P : Entry τ → Type 0) (last : State τ) (entries : List (Entry τ)) → run p ≡ Some last
      → run_trace p ≡ Some entries → All P entries
      → All (λ (r : DeclaredResource τ). P (resource_entry r)) last.resources
  resources_all P last entries runs traced all =
      subst (λ o. IfSome o (λ (s : State τ). All (λ (r : DeclaredResource τ). P (resource_entry r)) s.resources)) runs
      (traced_all (λ r. true) P p.initializers start entries traced all
      (All-nil (λ (r : DeclaredResource τ). P (resource_entry r))))
