-- Within the crate: sound plans, and those that a plan was before.
use Rattle.std.specs.Prelude.{◌≡◌, ◌<◌, ◌+◌, ◌++◌, ℕ, List, length, count_by}
use Rattle.pc_numbers.specs.declared.runtime.RuntimeInstanceIndex.{RuntimeInstanceIndex}
use Rattle.pc_spec_plan.specs.Counts.{makes_instance, lowers_import, fills, declares_resource}
use Rattle.pc_spec_plan.specs.PlanView as plan
use Rattle.pc_info.specs.declared.initializer.GlobalInitializer.{GlobalInitializer}
use Rattle.pc_dfg.specs.declared.dfg.ComponentDfg.{ComponentDfg}
use Rattle.pc_dfg_linearize.specs.declared.state.Finish.{Finish}
use Rattle.pc_dfg_linearize.specs.Once.{Fills, Stay}
use Rattle.pc_dfg_linearize.specs.Plan.{slot_count, steps_view}
use Rattle.pc_dfg_linearize.specs.Represented.{Represents}
use Rattle.pc_dfg_linearize.specs.Steps.{AreSteps}

-- each count is the number of steps of its kind
pub record CountsSteps (f : Finish) : Type 0 where
  pub instances : count_by makes_instance (steps_view f) ≡ f.counts.instances
  pub lowerings : count_by lowers_import (steps_view f) ≡ f.counts.lowerings
  pub slots : (k : plan.SlotKind) → count_by (fills k) (steps_view f) ≡ slot_count f k
  pub resources : count_by declares_resource (steps_view f) ≡ length f.resources

-- a plan has all that another one has, and maybe more
pub record IsLater (old new : Finish) : Type 0 where
  pub stay : Stay old new
  pub more : List GlobalInitializer
  pub steps : new.steps ≡ old.steps ++ more
  pub made : List RuntimeInstanceIndex
  pub instances : new.instances ≡ old.instances ++ made

-- a plan in which each step is of the graph
pub record IsSound (g : ComponentDfg) (f : Finish) : Type 0 where
  pub counts : CountsSteps f
  pub fills : Fills f
  pub represents : Represents g f
  pub are_steps : AreSteps g f

-- a plan was this one before
pub record HasBeen (g : ComponentDfg) (f before : Finish) : Type 0 where
  pub later : IsLater before f
  pub sound : IsSound g before

-- at each options entry, and at each trampoline, there was a sound plan that had it as the last one
pub record HasPassed (g : ComponentDfg) (f : Finish) : Type 0 where
  pub options : (n : ℕ) → n < length f.options
      → (before : Finish) × HasBeen g f before × (length before.options ≡ n + 1)
  pub trampolines : (n : ℕ) → n < length f.trampolines
      → (before : Finish) × HasBeen g f before × (length before.trampolines ≡ n + 1)
