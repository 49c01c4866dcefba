-- What becomes of a plan when an id gets its number, and with it all that it leads to.
use Rattle.std.specs.Prelude.{◌≡◌, ℕ, ◌++◌, false, List, length, Some, slice_get, All}
use Rattle.pc_spec_plan.specs.CoreValue.{CoreValue, Options}
use Rattle.pc_spec_plan.specs.PlanView as plan
use Rattle.pc_trampoline.specs.declared.part.Mark.{Mark}
use Rattle.pc_info.specs.declared.initializer.GlobalInitializer.{GlobalInitializer}
use Rattle.pc_info.specs.declared.module.ModuleTranslation.{ModuleTranslation}
use Rattle.pc_info.specs.Definitions.{initializer_view}
use Rattle.pc_dfg.specs.declared.core_def.CoreDef.{CoreDef}
use Rattle.pc_dfg.specs.declared.core_def.CoreDef.TheVariants as def
use Rattle.pc_dfg.specs.declared.dfg.ComponentDfg.{ComponentDfg}
use Rattle.pc_dfg.specs.Means.{Means, MeansOptions}
use Rattle.pc_dfg.specs.Numbers.{slots_of}
use Rattle.pc_dfg_linearize.specs.declared.id.Id.{Id}
use Rattle.pc_dfg_linearize.specs.declared.id.Id.TheVariants as id
use Rattle.pc_dfg_linearize.specs.declared.state.Finish.{Finish}
use Rattle.pc_dfg_linearize.specs.Once.{Fills, OnlyFrom, Stay}
use Rattle.pc_dfg_linearize.specs.Parts.{HasNumber}
use Rattle.pc_dfg_linearize.specs.Reached.{GoesOn}
use Rattle.pc_dfg_linearize.specs.Represented.{Represents}
use Rattle.pc_info.specs.Standing.{is_side_effect}
use Rattle.pc_dfg_linearize.specs.Sound.{CountsSteps, HasPassed, IsSound}
use Rattle.pc_dfg_linearize.specs.Steps.{AreSteps}
use Rattle.pc_dfg_linearize.specs.Wired.{IsWired}

-- the numbers of the graph's entries are kept in lists of the graph's own lengths
pub record Fits (g : ComponentDfg) (f : Finish) : Type 0 where
  pub memories : length f.numbers.memories ≡ length g.memories
  pub tables : length f.numbers.tables ≡ length g.tables
  pub reallocs : length f.numbers.reallocs ≡ length g.reallocs
  pub callbacks : length f.numbers.callbacks ≡ length g.callbacks
  pub post_returns : length f.numbers.post_returns ≡ length g.post_returns
  pub options : length f.numbers.options ≡ length g.options
  pub lowerings : length f.numbers.lowerings ≡ length g.trampolines
  pub trampolines : length f.numbers.trampolines ≡ length g.trampolines
  pub adapter_modules : length f.numbers.adapter_modules ≡ length g.adapter_modules
  pub intrinsics : length f.intrinsics ≡ 21
  pub signatures : length f.signatures ≡ length f.trampolines

-- what is in a slot has a value
abbrev pub HasValue : ComponentDfg → plan.SlotKind → ℕ → Type 0
HasValue g k n =
    (d : CoreDef) → slice_get (slots_of g k) n ≡ Some d → (v : CoreValue Mark) × Means g d v

-- an id stands for a value. A module of adapters does where the graph is wired, an intrinsic always
unfoldable pub Valued : ComponentDfg → Id → Type 0
Valued g (id.Memory n) = HasValue g plan.memory n.0
Valued g (id.Table n) = HasValue g plan.table n.0
Valued g (id.Realloc n) = HasValue g plan.realloc n.0
Valued g (id.Callback n) = HasValue g plan.callback n.0
Valued g (id.PostReturn n) = HasValue g plan.post_return n.0
Valued g (id.Options o) = (v : Options Mark) × MeansOptions g o.0 v
Valued g (id.Lowering t) = (v : CoreValue Mark) × Means g (def.Trampoline t) v
Valued g (id.Trampoline t) = (v : CoreValue Mark) × Means g (def.Trampoline t) v
Valued g (id.Intrinsic s i) = Unit {0}
Valued g (id.AdapterModule m) = Unit {0}

-- steps were added, none of which is a side effect
pub record AddsSteps (old new : Finish) : Type 0 where
  pub more : List GlobalInitializer
  pub is : new.steps ≡ old.steps ++ more
  pub quiet : All (λ i. is_side_effect (initializer_view i) ≡ false) more

-- the plan was made further, without a side effect
pub record Continues (g : ComponentDfg) (old new : Finish) : Type 0 where
  pub counts : CountsSteps old → CountsSteps new
  pub numbered : (y : Id) → HasNumber old y → HasNumber new y
  pub stay : Stay old new
  pub fits : Fits g new
  pub instances : new.instances ≡ old.instances
  pub resources : new.resources ≡ old.resources
  pub steps : AddsSteps old new
  pub fills : Fills old → Fills new
  pub represents : Represents g old → Represents g new
  pub are_steps : CountsSteps old → Fills old → AreSteps g old → AreSteps g new
  pub passed : IsSound g old → HasPassed g old → HasPassed g new

-- an id has its number, and only what it leads to got one
pub record Closed (g : ComponentDfg) (old new : Finish) (x : Id) : Type 0 where
  pub continues : Continues g old new
  pub here : HasNumber new x
  pub only : OnlyFrom g old new x
  pub goes : (ms : List ModuleTranslation) → IsWired g ms → Valued g x → GoesOn g ms old new
