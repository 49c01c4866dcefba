-- A run that does as a confined log tells is confined.
use Rattle.std.proofs.Common.{◌≡◌, ℕ, List, map, refl, sym, subst, Contains}
use Rattle.std.specs.Prelude.{All, Option, None, Some, option_map}
use Rattle.std.proofs.lemmas.Option.{none-some, same_Some}
use Rattle.std.proofs.lemmas.List.Elements.{All-contains, All-contains_itself, All-filter, All-map, All-weaker}
use Rattle.pc_spec_plan.specs.CoreValue.{CoreValue, Options, adapter, builtin, erased, exported, flags, helper}
use Rattle.pc_spec_plan.specs.CoreValue.{intrinsic, lowered}
use Rattle.pc_spec_plan.specs.CoreValue.{map_options, map_value}
use Rattle.pc_spec_plan.specs.Log.{Entry, Owned, declared, declared_resource, erase_entry, erase_owned, instances_of}
use Rattle.pc_spec_plan.specs.Log.{instantiated, is_effect, made, needed, trace}
use Rattle.pc_spec_plan.specs.Machine.{DeclaredResource, State, owned_instances}
use Rattle.pc_spec_plan.specs.PlanView.{PlanView}
use Rattle.pc_spec_plan.specs.Trace.{resource_entry, run_trace}
use Rattle.pc_spec_wiring.specs.Confined.{Belongs, IsConfined, IsConfinedRun, IsOf}
use Rattle.pc_spec_wiring.specs.Held.{arguments_of, instance_of, lifts_of, maybe_list}
use Rattle.pc_confined.proofs.MarkLemmas.{all_mapped, all_unmap, all_unmapped, arguments_same, instance_same}
use Rattle.pc_confined.proofs.MarkLemmas.{lifts_same}
use Rattle.pc_confined.proofs.MarkLemmas.{maybe_same}
use Rattle.pc_confined.proofs.TraceLemmas.{resources_all}
use Rattle.pc_confined.specs.Runs.{DoesAsTold}

-- among core instances: what one of them is given is of the component instance that it was made for
abbrev IsOwnInstance : {τ : Type 0} (owned : List (Owned τ)) → Owned τ → Type 0
IsOwnInstance owned o = All (IsOf owned o.component_instance) (arguments_of o.instantiation)

-- what an adapter lifts is of the component instance that lifts it
abbrev IsOwnAdapter : {τ : Type 0} (owned : List (Owned τ)) → CoreValue τ → Type 0
IsOwnAdapter owned (adapter t lift u lower callee) = All (IsOf owned (instance_of lift)) (lifts_of lift callee)
IsOwnAdapter owned v = Unit {0}

-- so is the destructor of a resource of that which declares it
abbrev IsOwnEntry : {τ : Type 0} (owned : List (Owned τ)) → Entry τ → Type 0
IsOwnEntry owned (declared_resource r d c) = All (IsOf owned c) (maybe_list d)
IsOwnEntry owned (made v) = IsOwnAdapter owned v
IsOwnEntry owned e = Unit {0}

-- what an adapter lifts, types erased
abbrev erased_lifts : {τ : Type 0} → Options τ → CoreValue τ → List (CoreValue (Unit {0}))
erased_lifts lift callee = lifts_of (map_options erased lift) (map_value erased callee)

module _ {τ υ : Type 0} (p : PlanView τ) (last : State τ) (log : List (Entry υ)) (confined : IsConfined log) where
  -- the core instances of the log, types erased
  abbrev Told : List (Owned (Unit {0}))
  Told = map erase_owned (instances_of log)

  told_of : (c : ℕ) (vs : List (CoreValue υ)) → All (Belongs log c) vs → All (IsOf Told c) (map (map_value erased) vs)
  told_of c vs h =
      all_mapped erased (instances_of log) c vs
      (All-weaker (Belongs log c) (IsOf (instances_of log) c) (λ v b. b.whose) vs h)

  told_instances : All (IsOwnInstance Told) Told
  told_instances =
      All-map (IsOwnInstance Told) erase_owned (instances_of log)
      (All-weaker (Contains (instances_of log)) (λ o. IsOwnInstance Told (erase_owned o)) one (instances_of log)
      (All-contains_itself (instances_of log)))
    where
      one : (o : Owned υ) → Contains (instances_of log) o → IsOwnInstance Told (erase_owned o)
      one o at =
          subst (All (IsOf Told o.component_instance)) (sym (arguments_same erased o.instantiation))
          (told_of o.component_instance (arguments_of o.instantiation) (confined.arguments o at))

  told_entry : (e : Entry υ) → Contains log e → IsOwnEntry Told (erase_entry e)
  told_entry (instantiated i c) at = tt
  told_entry (declared_resource r d c) at =
      subst (All (IsOf Told c)) (sym (maybe_same erased d)) (told_of c (maybe_list d) (confined.destructors r d c at))
  told_entry (declared v) at = tt
  told_entry (made (exported n item)) at = tt
  told_entry (made (lowered q ty o)) at = tt
  told_entry (made (builtin k c ps)) at = tt
  told_entry (made (intrinsic n)) at = tt
  told_entry (made (adapter t lift u lower callee)) at =
      subst (λ c. All (IsOf Told c) (erased_lifts lift callee)) (sym (instance_same erased lift))
      (subst (All (IsOf Told (instance_of lift))) (sym (lifts_same erased lift callee))
      (told_of (instance_of lift) (lifts_of lift callee) (confined.callees t u lift lower callee at)))
  told_entry (made (flags c)) at = tt
  told_entry (made (helper k ps)) at = tt
  told_entry (needed q) at = tt

  told_entries : All (IsOwnEntry Told) (map erase_entry log)
  told_entries =
      All-map (IsOwnEntry Told) erase_entry log
      (All-weaker (Contains log) (λ e. IsOwnEntry Told (erase_entry e)) told_entry log (All-contains_itself log))

  told_trace : All (IsOwnEntry Told) (map erase_entry (trace log))
  told_trace =
      All-map (IsOwnEntry Told) erase_entry (trace log)
      (All-filter is_effect (λ e. IsOwnEntry Told (erase_entry e)) log
      (All-weaker (Contains log) (λ e. IsOwnEntry Told (erase_entry e)) told_entry log (All-contains_itself log)))

  module _ (does : DoesAsTold p last log) where
    -- what is told of core values without their types is true of them
    back : (c : ℕ) (vs : List (CoreValue τ)) → All (IsOf Told c) (map (map_value erased) vs)
        → All (IsOf (owned_instances last) c) vs
    back c vs h =
        all_unmapped erased (owned_instances last) c vs
        (subst (λ os. All (IsOf os c) (map (map_value erased) vs)) (sym does.instances) h)

    -- a run that does as a confined log tells is confined
    pub run_confined : IsConfinedRun p last
    run_confined = record {
      arguments = given;
      destructors = λ r at.
          back r.component_instance (maybe_list r.destructor)
          (subst (All (IsOf Told r.component_instance)) (maybe_same erased r.destructor)
          (All-contains (λ (x : DeclaredResource τ). IsOwnEntry Told (erase_entry (resource_entry x))) last.resources r
          resources at));
      callees = λ i m args r t u lift lower callee at is record_at same found.
          back (instance_of lift) (lifts_of lift callee)
          (subst (All (IsOf Told (instance_of lift))) (lifts_same erased lift callee)
          (subst (λ c. All (IsOf Told c) (erased_lifts lift callee)) (instance_same erased lift)
          (All-contains (IsOwnEntry Told) (map erase_entry log)
          (erase_entry (made (adapter t lift u lower callee))) told_entries
          (does.adapters i m args r (adapter t lift u lower callee) at is record_at same found))));
    }
      where
        resources : All (λ (r : DeclaredResource τ). IsOwnEntry Told (erase_entry (resource_entry r))) last.resources
        resources = by (run_trace p) refl does.traced
          where
            by : (o : Option (List (Entry τ))) → run_trace p ≡ o
                → option_map (map erase_entry) o ≡ Some (map erase_entry (trace log))
                → All (λ (r : DeclaredResource τ). IsOwnEntry Told (erase_entry (resource_entry r))) last.resources
            by None at is = absurd (none-some (map erase_entry (trace log)) is)
            by (Some entries) at is =
                resources_all p (λ e. IsOwnEntry Told (erase_entry e)) last entries does.runs at
                (all_unmap (IsOwnEntry Told) erase_entry entries
                (subst (All (IsOwnEntry Told))
                (sym (same_Some (map erase_entry entries) (map erase_entry (trace log)) is)) told_trace))

        given : (o : Owned τ) → Contains (owned_instances last) o
            → All (IsOf (owned_instances last) o.component_instance) (arguments_of o.instantiation)
        given o at =
            let mapped : Contains (map erase_owned (owned_instances last)) (erase_owned o) =
            All-contains (λ x. Contains (map erase_owned (owned_instances last)) (erase_owned x))
            (owned_instances last) o
            (all_unmap (Contains (map erase_owned (owned_instances last))) erase_owned (owned_instances last)
            (All-contains_itself (map erase_owned (owned_instances last)))) at in
            let told : Contains Told (erase_owned o) =
            subst (λ os. Contains os (erase_owned o)) does.instances mapped in
            back o.component_instance (arguments_of o.instantiation)
            (subst (All (IsOf Told o.component_instance)) (arguments_same erased o.instantiation)
            (All-contains (IsOwnInstance Told) Told (erase_owned o) told_instances told))
