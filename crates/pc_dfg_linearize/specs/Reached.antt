-- What the run of a plan reaches while the plan is made: its steps go, and each number that was given stands for the
-- value of its entry in the graph.
use Rattle.std.specs.Prelude.{◌≡◌, ℕ, ◌++◌, Bool, true, List, length, None, Some, slice_get, All}
use Rattle.std.specs.List.{AllZip}
use Rattle.pc_numbers.specs.declared.component_entity.StaticModuleIndex.{StaticModuleIndex}
use Rattle.pc_numbers.specs.declared.runtime.RuntimeInstanceIndex.{RuntimeInstanceIndex}
use Rattle.pc_numbers.specs.declared.runtime.TrampolineIndex.{TrampolineIndex}
use Rattle.pc_spec_plan.specs.CoreValue.{CoreValue, Options}
use Rattle.pc_spec_plan.specs.Log.{Entry, of_static}
use Rattle.pc_spec_plan.specs.Machine.{State, RuntimeInstance, start, run_from, options_at, resolve, owned_before}
use Rattle.pc_spec_plan.specs.Machine as machine
use Rattle.pc_spec_plan.specs.PlanView as plan
use Rattle.pc_spec_plan.specs.Trace.{trace_from}
use Rattle.pc_trampoline.specs.declared.part.Mark.{Mark}
use Rattle.pc_info.specs.declared.module.ModuleTranslation.{ModuleTranslation}
use Rattle.pc_dfg.specs.declared.core_def.CoreDef.{CoreDef}
use Rattle.pc_dfg.specs.declared.core_def.CoreDef.TheVariants as def
use Rattle.pc_dfg.specs.declared.dfg.ComponentDfg.{ComponentDfg}
use Rattle.pc_dfg.specs.declared.instance.Instance.{Instance}
use Rattle.pc_dfg.specs.Effects.{MeansInstance}
use Rattle.pc_dfg.specs.Means.{Means, MeansOptions}
use Rattle.pc_dfg.specs.Numbers.{SignedTrampoline, slots_of, trampoline_entry}
use Rattle.pc_dfg_linearize.specs.declared.state.Finish.{Finish}
use Rattle.pc_dfg_linearize.specs.Numbers.{number_at}
use Rattle.pc_dfg_linearize.specs.Parts.{slot_numbers}
use Rattle.pc_dfg_linearize.specs.Plan.{Extends, Kept, slot_count, steps_view}

-- all runtime imports are linked
abbrev pub all_linked : ℕ → Bool
all_linked r = true

module _ (g : ComponentDfg) where
  -- where the core instances of the graph and its modules of adapters stand in a run
  pub record Placed (f : Finish) (s : State Mark) : Type 0 where
    pub count : length s.instances ≡ f.counts.instances
    -- the next one has as many before it as were made
    pub next : owned_before s (length s.instances) ≡ length f.instances
    -- a core instance that was made for a component instance, with as many such ones before it as in the graph
    pub instance : (k : ℕ) (n : RuntimeInstanceIndex) → slice_get f.instances k ≡ Some n
        → (m : RuntimeInstance Mark) × (c : ℕ) × (x : Instance) × (slice_get s.instances n.0 ≡ Some m)
        × (m.component_instance ≡ Some c) × (owned_before s n.0 ≡ k) × (slice_get g.instances k ≡ Some x)
        × MeansInstance g x m.instantiation
    -- an instance of a module of adapters, with the values of its arguments
    pub adapter_module : (k n : ℕ) → number_at f.numbers.adapter_modules k ≡ Some n
        → (x : StaticModuleIndex × List CoreDef) × (vs : List (CoreValue Mark))
        × (slice_get g.adapter_modules k ≡ Some x) × AllZip (Means g) x.1 vs
        × (slice_get s.instances n ≡ Some (record { instantiation = of_static x.0.0 vs; component_instance = None }))

  -- the lowerings and slots of a run are as many as were counted, and each number is that of the entry's value
  pub record Filled (f : Finish) (s : State Mark) : Type 0 where
    pub lowerings : length s.lowerings ≡ f.counts.lowerings
    pub slots : (k : plan.SlotKind) → length (machine.slots_of s k) ≡ slot_count f k
    pub resources : length s.resources ≡ length f.resources
    pub lowering : (t n r o : ℕ) (x : SignedTrampoline) (s' ty : Mark) → number_at f.numbers.lowerings t ≡ Some n
        → slice_get g.trampolines t ≡ Some x → trampoline_entry x ≡ plan.lowers r s' ty o
        → slice_get s.lowerings n ≡ Some r
    pub slot : (k : plan.SlotKind) (i n : ℕ) (d : CoreDef) (v : CoreValue Mark)
        → number_at (slot_numbers f k) i ≡ Some n → slice_get (slots_of g k) i ≡ Some d → Means g d v
        → slice_get (machine.slots_of s k) n ≡ Some v

  -- each options entry and trampoline of the plan stands for the value of its entry in the graph
  pub record Resolves (ms : List ModuleTranslation) (f : Finish) (s : State Mark) : Type 0 where
    pub options : (o n : ℕ) (v : Options Mark) (p : plan.PlanView Mark) → number_at f.numbers.options o ≡ Some n
        → MeansOptions g o v → Extends g ms f p → options_at p s n ≡ Some v
    pub trampoline : (t : TrampolineIndex) (n : ℕ) (v : CoreValue Mark) (p : plan.PlanView Mark)
        → number_at f.numbers.trampolines t.0 ≡ Some n → Means g (def.Trampoline t) v → Extends g ms f p
        → resolve p s (plan.trampoline n) ≡ Some v

  -- the steps so far reach this state, and did this
  pub record Reached (ms : List ModuleTranslation) (f : Finish) (s : State Mark) (trace : List (Entry Mark)) : Type 0
    where
      pub runs : (p : plan.PlanView Mark) → Extends g ms f p → run_from p all_linked (steps_view f) start ≡ Some s
      pub traced : (p : plan.PlanView Mark) → Extends g ms f p
          → trace_from p all_linked (steps_view f) start ≡ Some trace
      pub placed : Placed f s
      pub filled : Filled f s
      pub resolves : Resolves ms f s

-- a state has only gained what the trace of a run doesn't show: slots, lowerings, instances of adapter modules
pub record Gains (s t : State Mark) : Type 0 where
  pub more : List (RuntimeInstance Mark)
  pub instances : t.instances ≡ s.instances ++ more
  pub unowned : All (λ (m : RuntimeInstance Mark). m.component_instance ≡ None) more
  pub lowerings : Kept s.lowerings t.lowerings
  pub slots : (k : plan.SlotKind) → Kept (machine.slots_of s k) (machine.slots_of t k)
  pub resources : t.resources ≡ s.resources

-- a plan that was made further, without a side effect: its run goes on from where it was
pub record Grown (g : ComponentDfg) (ms : List ModuleTranslation) (new : Finish) (s : State Mark)
    (trace : List (Entry Mark)) : Type 0 where
  pub state : State Mark
  pub reached : Reached g ms new state trace
  pub gains : Gains s state

-- whatever the run has reached, it goes on
abbrev pub GoesOn : ComponentDfg → List ModuleTranslation → (old new : Finish) → Type 0
GoesOn g ms old new =
    (s : State Mark) (trace : List (Entry Mark)) → Reached g ms old s trace → Grown g ms new s trace
