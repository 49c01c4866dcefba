-- Within the crate: the core instances of the graph that were made so far, each by its step.
use Rattle.std.specs.Prelude.{◌≡◌, ℕ, Some}
use Rattle.pc_dfg.specs.declared.dfg.ComponentDfg.{ComponentDfg}
use Rattle.pc_dfg_linearize.specs.declared.state.Finish.{Finish}
use Rattle.pc_dfg_linearize.specs.Once.{Origin, number_in_run, of_instance}
use Rattle.pc_dfg_linearize.specs.Plan.{steps_view}
use Rattle.pc_dfg_linearize.specs.Sound.{CountsSteps}
use Rattle.pc_dfg_finish.specs.Renumbered.{IsMadeOf}

module _ (g : ComponentDfg) where
  -- a step makes the core instance that has this number
  abbrev pub IsInstantiated : Finish → Origin → (number : ℕ) → Type 0
  IsInstantiated f x n = IsMadeOf g (number_in_run f) (steps_view f) x n

  -- so it is with all core instances of the graph that have numbers
  abbrev pub AreInstantiated : Finish → Type 0
  AreInstantiated f =
      (k n : ℕ) → number_in_run f (of_instance k) ≡ Some n → IsInstantiated f (of_instance k) n

  -- so it goes on to be
  abbrev pub StayInstantiated : (old new : Finish) → Type 0
  StayInstantiated old new = CountsSteps old → AreInstantiated old → AreInstantiated new
