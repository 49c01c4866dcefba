-- Within the crate: the steps of a plan come in stages, each of which ends with that of a side effect.
use Rattle.std.specs.Prelude.{◌≡◌, ◌<◌, ◌++◌, ℕ, true, false, List, [], ◌∷◌, length, All, Contains, Some, slice_get}
use Rattle.pc_numbers.specs.declared.runtime.RuntimeInstanceIndex.{RuntimeInstanceIndex}
use Rattle.pc_spec_plan.specs.PlanView as plan
use Rattle.pc_info.specs.declared.initializer.GlobalInitializer.{GlobalInitializer}
use Rattle.pc_info.specs.Definitions.{initializer_view}
use Rattle.pc_dfg.specs.declared.dfg.ComponentDfg.{ComponentDfg}
use Rattle.pc_dfg_linearize.specs.declared.id.Id.{Id}
use Rattle.pc_dfg_linearize.specs.declared.state.Finish.{Finish}
use Rattle.pc_dfg_linearize.specs.Arguments.{OnlyFromThese}
use Rattle.pc_dfg_linearize.specs.Once.{Fills, Stay}
use Rattle.pc_dfg_linearize.specs.Parts.{HasNumber, number_of}
use Rattle.pc_dfg_linearize.specs.Plan.{steps_view}
use Rattle.pc_dfg_linearize.specs.Sound.{CountsSteps, IsLater, IsSound}
use Rattle.pc_info.specs.Standing.{is_side_effect, named_in}
use Rattle.pc_dfg_linearize.specs.Steps.{piece_of}

-- steps that are no side effects were added, and then one that is: it names all of these ids
pub record AddsEffect (old new : Finish) (ids : List Id) : Type 0 where
  pub quiet : List GlobalInitializer
  pub last : GlobalInitializer
  pub steps : new.steps ≡ (old.steps ++ quiet) ++ last ∷ []
  pub are_quiet : All (λ i. is_side_effect (initializer_view i) ≡ false) quiet
  pub effect : is_side_effect (initializer_view last) ≡ true
  pub names : (y : Id) (n : ℕ) → Contains ids y → number_of new y ≡ Some n
      → Contains (named_in (initializer_view last)) (piece_of y n)
  pub made : List RuntimeInstanceIndex
  pub instances : new.instances ≡ old.instances ++ made

-- behind each step that is no side effect there is one that is
abbrev pub EndsWithEffect : List plan.Initializer → Type 0
EndsWithEffect steps =
    (i : ℕ) (s : plan.Initializer) → slice_get steps i ≡ Some s → is_side_effect s ≡ false
    → (j : ℕ) × (t : plan.Initializer) × (i < j) × (slice_get steps j ≡ Some t) × (is_side_effect t ≡ true)

-- the side effect at this place ends a stage: what it names, and only what that leads to, has got its numbers there
pub record IsStage (g : ComponentDfg) (f : Finish) (place : ℕ) (s : plan.Initializer) : Type 0 where
  pub before : Finish
  pub after : Finish
  pub ids : List Id
  pub adds : AddsEffect before after ids
  pub at : place ≡ length (before.steps ++ adds.quiet)
  pub is : initializer_view adds.last ≡ s
  pub here : All (HasNumber after) ids
  pub only : OnlyFromThese g before after ids
  pub stay : Stay before after
  pub ends : EndsWithEffect (steps_view before)
  pub counts : CountsSteps before
  pub fills : Fills before
  pub sound : IsSound g after
  pub later : IsLater after f
