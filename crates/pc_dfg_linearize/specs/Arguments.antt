-- Arguments and other definitions that the plan names: all that they depend on gets its number first.
use Rattle.std.specs.Prelude.{ℕ, ◌⊎◌, List, map, All, Contains}
use Rattle.std.specs.List.{flat_map}
use Rattle.pc_spec_plan.specs.CoreValue.{CoreValue}
use Rattle.pc_trampoline.specs.declared.part.Mark.{Mark}
use Rattle.pc_info.specs.declared.core_def.CoreDef.{CoreDef as PlanDef}
use Rattle.pc_info.specs.declared.module.ModuleTranslation.{ModuleTranslation}
use Rattle.pc_dfg.specs.declared.core_def.CoreDef.{CoreDef}
use Rattle.pc_dfg.specs.declared.dfg.ComponentDfg.{ComponentDfg}
use Rattle.pc_dfg.specs.Effects.{host_arguments}
use Rattle.pc_dfg.specs.Means.{Means}
use Rattle.pc_dfg_linearize.specs.declared.id.Id.{Id}
use Rattle.pc_dfg_linearize.specs.declared.state.Finish.{Finish}
use Rattle.pc_dfg_linearize.specs.Closed.{Continues}
use Rattle.pc_dfg_linearize.specs.Converted.{def_in}
use Rattle.pc_dfg_linearize.specs.Once.{IsUsedBy}
use Rattle.pc_dfg_linearize.specs.Parts.{HasNumber, in_def}
use Rattle.pc_dfg_linearize.specs.Reached.{GoesOn}
use Rattle.pc_dfg_linearize.specs.Ready.{IsReady, IsReadyDef}
use Rattle.pc_dfg_linearize.specs.Wired.{IsWired}

-- a definition names what was made, and so does all that it depends on
pub record CanNumber (g : ComponentDfg) (made : ℕ) (d : CoreDef) : Type 0 where
  pub itself : IsReadyDef g made d
  pub parts : All (IsReady g made) (in_def g d)

-- all that a definition depends on has its number
abbrev pub IsNumbered : ComponentDfg → Finish → CoreDef → Type 0
IsNumbered g f d = All (HasNumber f) (in_def g d)

-- a definition stands for a value
abbrev pub HasMeaning : ComponentDfg → CoreDef → Type 0
HasMeaning g d = (v : CoreValue Mark) × Means g d v

-- an id had its number, or is what one of these ids leads to
abbrev pub IsFrom : ComponentDfg → (old : Finish) → List Id → Id → Type 0
IsFrom g old xs y = HasNumber old y ⊎ ((x : Id) × Contains xs x × IsUsedBy g x y)

-- what has its number now had it before, or is what one of these ids leads to
abbrev pub OnlyFromThese : ComponentDfg → (old new : Finish) → List Id → Type 0
OnlyFromThese g old new xs = (y : Id) → HasNumber new y → IsFrom g old xs y

-- all that these definitions depend on has got its number, and only what they lead to
pub record NumbersAll (g : ComponentDfg) (old new : Finish) (ds : List CoreDef) : Type 0 where
  pub continues : Continues g old new
  pub here : All (IsNumbered g new) ds
  pub only : OnlyFromThese g old new (flat_map (in_def g) ds)
  pub goes : (ms : List ModuleTranslation) → IsWired g ms → All (HasMeaning g) ds → GoesOn g ms old new

-- the definitions of named arguments
abbrev pub named_defs : List (List ℕ × CoreDef) → List CoreDef
named_defs args = map (λ a. a.1) args

-- the definitions of the arguments of a host module
abbrev pub host_defs : List (List ℕ × List (List ℕ × CoreDef)) → List CoreDef
host_defs args = map (λ a. a.1.1) (host_arguments args)

-- named arguments as the plan has them
abbrev pub named_in : ComponentDfg → Finish → List (List ℕ × CoreDef) → List (List ℕ × PlanDef)
named_in g f args = map (λ a. (a.0, def_in g f a.1)) args

-- the arguments of a host module as the plan has them
abbrev pub host_in : ComponentDfg → Finish → List (List ℕ × List (List ℕ × CoreDef))
    → List (List ℕ × List (List ℕ × PlanDef))
host_in g f args = map (λ m. (m.0, named_in g f m.1)) args
