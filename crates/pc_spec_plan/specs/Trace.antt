-- The trace of a run: the core instances and resources that its steps make, in order.
use Rattle.std.specs.Prelude.{ℕ, Bool, true, List, [], ◌∷◌, ◌++◌, length, drop, map, Option, Some, None, if◌then◌else◌}
use Rattle.std.specs.Prelude.{option_and_then, option_map}
use Rattle.std.specs.List.{filter_map}
use Rattle.pc_spec_plan.specs.Log.{Entry, Owned, instantiated, declared_resource}
use Rattle.pc_spec_plan.specs.Machine.{State, DeclaredResource, owned_of, start, step, is_within}
use Rattle.pc_spec_plan.specs.PlanView

-- the entry of a core instance that was made for a component instance
abbrev pub instance_entry : {τ : Type 0} → Owned τ → Entry τ
instance_entry o = instantiated o.instantiation o.component_instance

-- the entry of a resource
abbrev pub resource_entry : {τ : Type 0} → DeclaredResource τ → Entry τ
resource_entry r = declared_resource r.representation r.destructor r.component_instance

-- what a state has that an earlier one hadn't: core instances of component instances, and resources
abbrev pub gained : {τ : Type 0} → (earlier later : State τ) → List (Entry τ)
gained earlier later =
    map instance_entry (filter_map owned_of (drop (length earlier.instances) later.instances))
    ++ map resource_entry (drop (length earlier.resources) later.resources)

module _ {τ : Type 0} (p : PlanView.PlanView τ) where
  -- what these initializers make from a state on, in the order of the steps; nothing where one is stuck
  abbrev pub trace_from : (linked : ℕ → Bool) → List PlanView.Initializer → State τ → Option (List (Entry τ))
  trace_from linked [] s = Some []
  trace_from linked (i ∷ is) s =
      option_and_then (λ (next : State τ). if is_within p next
      then option_map (λ (rest : List (Entry τ)). gained s next ++ rest) (trace_from linked is next)
      else None) (step p linked s i)

  -- the trace of a plan's run from nothing, all imports being linked
  abbrev pub run_trace : Option (List (Entry τ))
  run_trace = trace_from (λ r. true) p.initializers start
