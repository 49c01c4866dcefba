-- What becomes of a plan when a side effect of the graph is done.
use Rattle.std.specs.Prelude.{◌≡◌, All, Contains, ℕ, ◌+◌, ◌++◌, ◌∷◌, [], List, Option, Some, length, map, take}
use Rattle.std.specs.Prelude.{option_map, slice_get, true}
use Rattle.std.specs.List.{AllZip, filter_map, flat_map}
use Rattle.pc_numbers.specs.declared.runtime.RuntimeComponentInstanceIndex.{RuntimeComponentInstanceIndex}
use Rattle.pc_spec_plan.specs.Log.{Entry}
use Rattle.pc_spec_plan.specs.Machine.{State}
use Rattle.pc_spec_plan.specs.PlanView as plan
use Rattle.pc_trampoline.specs.declared.part.Mark.{Mark}
use Rattle.pc_info.specs.declared.core_def.CoreDef.{CoreDef as PlanDef}
use Rattle.pc_info.specs.declared.initializer.GlobalInitializer.TheVariants as init
use Rattle.pc_info.specs.declared.initializer.InstantiateModule.{InstantiateModule}
use Rattle.pc_info.specs.declared.initializer.InstantiateModule.TheVariants as plan_source
use Rattle.pc_info.specs.declared.initializer.Resource.{Resource as PlanResource}
use Rattle.pc_info.specs.declared.module.ModuleTranslation.{ModuleTranslation}
use Rattle.pc_dfg.specs.declared.core_def.CoreDef.{CoreDef}
use Rattle.pc_dfg.specs.declared.dfg.ComponentDfg.{ComponentDfg}
use Rattle.pc_dfg.specs.declared.instance.Instance.{Instance}
use Rattle.pc_dfg.specs.declared.instance.Instance.TheVariants as source
use Rattle.pc_dfg.specs.declared.instance.Resource.{Resource}
use Rattle.pc_dfg.specs.declared.instance.SideEffect.{SideEffect}
use Rattle.pc_dfg.specs.declared.instance.SideEffect.TheVariants as effect
use Rattle.pc_dfg.specs.Effects.{MeansEffect}
use Rattle.pc_dfg.specs.Names.{each_of, if_any, in_effect, in_instance}
use Rattle.pc_dfg.specs.Ordered.{made_before, made_by, declared_by}
use Rattle.pc_dfg_linearize.specs.declared.id.Id.{Id}
use Rattle.pc_dfg_linearize.specs.declared.state.Finish.{Finish}
use Rattle.pc_dfg_linearize.specs.Arguments.{NumbersAll, OnlyFromThese, host_in}
use Rattle.pc_dfg_linearize.specs.Closed.{Fits}
use Rattle.pc_dfg_linearize.specs.Sound.{CountsSteps, HasPassed, IsSound}
use Rattle.pc_dfg_linearize.specs.Converted.{def_in}
use Rattle.pc_dfg_linearize.specs.Once.{Fills, IsUsedBy, Stay}
use Rattle.pc_dfg_linearize.specs.Parts.{HasNumber, in_def}
use Rattle.pc_dfg_linearize.specs.Plan.{steps_view}
use Rattle.pc_dfg_linearize.specs.Reached.{Reached}
use Rattle.pc_dfg_linearize.specs.Represented.{AreNamed, Keeps, Represents}
use Rattle.pc_dfg_linearize.specs.Stages.{AddsEffect, EndsWithEffect, IsStage}
use Rattle.pc_info.specs.Standing.{is_side_effect}
use Rattle.pc_dfg_linearize.specs.Steps.{AreSteps}
use Rattle.pc_dfg_linearize.specs.Wired.{IsWired}

-- a module with its arguments, as the plan has it
unfoldable pub instance_in : ComponentDfg → Finish → Instance → InstantiateModule
instance_in g f (source.Static m args) = plan_source.Static m (map (def_in g f) args)
instance_in g f (source.Import r args) = plan_source.Import r (host_in g f args)

-- what is to be instantiated: its arguments have their numbers
pub record Prepares (g : ComponentDfg) (old new : Finish) (x : Instance) (m : InstantiateModule) : Type 0 where
  pub numbers : NumbersAll g old new (in_instance x)
  pub is : m ≡ instance_in g new x

-- a destructor, if there is one: it has its number
pub record PreparesAny (g : ComponentDfg) (old new : Finish) (x : Option CoreDef) (d : Option PlanDef) : Type 0 where
  pub numbers : NumbersAll g old new (if_any x)
  pub is : d ≡ option_map (def_in g new) x

-- a plan with a step that makes one more core instance
abbrev pub with_instance : Finish → InstantiateModule → RuntimeComponentInstanceIndex → Finish
with_instance f m c = record f {
  steps = f.steps ++ init.InstantiateModule m (Some c) ∷ [];
  instances = f.instances ++ record { 0 = f.counts.instances } ∷ [];
  counts = record f.counts { instances = f.counts.instances + 1 };
}

-- a plan with a step that declares one more resource
abbrev pub with_resource : Finish → PlanResource → Finish
with_resource f r = record f {
  steps = f.steps ++ init.Resource r ∷ [];
  resources = f.resources ++ r.instance ∷ [];
}

-- how many resources are declared before the ith side effect
abbrev pub declared_before : ComponentDfg → ℕ → ℕ
declared_before g i = length (filter_map declared_by (take i g.side_effects))

-- a side effect is the next to be done
pub record IsNext (g : ComponentDfg) (f : Finish) (e : SideEffect) : Type 0 where
  pub place : ℕ
  pub at : slice_get g.side_effects place ≡ Some e
  pub instances : length f.instances ≡ made_before g place
  pub resources : length f.resources ≡ declared_before g place

-- the component instance of the resource that a side effect declares
abbrev pub owner_of : ComponentDfg → SideEffect → List RuntimeComponentInstanceIndex
owner_of g (effect.Instance i c) = []
owner_of g (effect.Resource n) = each_of (λ (x : Resource). x.instance ∷ []) (slice_get g.resources n.0)

-- the run of a plan reaches some state, with this trace
pub record Stands (g : ComponentDfg) (ms : List ModuleTranslation) (f : Finish) (trace : List (Entry Mark)) : Type 0
  where
    pub state : State Mark
    pub reached : Reached g ms f state trace

-- wherever the run was, it goes on by these entries
abbrev pub Makes : ComponentDfg → List ModuleTranslation → (old new : Finish) → List (Entry Mark) → Type 0
Makes g ms old new entries =
    (s : State Mark) (trace : List (Entry Mark)) → Reached g ms old s trace → Stands g ms new (trace ++ entries)

-- what a side effect depends on
abbrev pub ids_in : ComponentDfg → SideEffect → List Id
ids_in g e = flat_map (in_def g) (in_effect g e)

-- what these side effects depend on
abbrev pub ids_in_all : ComponentDfg → List SideEffect → List Id
ids_in_all g es = flat_map (ids_in g) es

-- a side effect was done
pub record IsDone (g : ComponentDfg) (old new : Finish) (e : SideEffect) : Type 0 where
  pub fits : Fits g new
  pub counts : CountsSteps old → CountsSteps new
  pub fills : Fills old → Fills new
  pub represents : Represents g old → Represents g new
  pub are_steps : CountsSteps old → Fills old → AreSteps g old → AreSteps g new
  pub passed : IsSound g old → HasPassed g old → HasPassed g new
  pub adds : AddsEffect old new (ids_in g e)
  pub only : OnlyFromThese g old new (ids_in g e)
  pub numbered : (y : Id) → HasNumber old y → HasNumber new y
  pub stay : Stay old new
  pub keeps : Keeps old.steps new.steps
  pub named : AreNamed new new.steps (ids_in g e)
  pub here : All (HasNumber new) (ids_in g e)
  pub instances : length new.instances ≡ length old.instances + length (if_any (made_by e))
  pub resources : new.resources ≡ old.resources ++ owner_of g e
  pub makes : (ms : List ModuleTranslation) (entry : Entry Mark) → IsWired g ms → MeansEffect g e entry
      → Makes g ms old new (entry ∷ [])

-- the first i side effects of a graph were done
pub record DoneBefore (g : ComponentDfg) (i : ℕ) (f : Finish) : Type 0 where
  pub fits : Fits g f
  pub counts : CountsSteps f
  pub fills : Fills f
  pub represents : Represents g f
  pub are_steps : AreSteps g f
  pub passed : HasPassed g f
  -- each side effect's step ends a stage of the plan, and no other step stands behind them all
  pub stages : (i : ℕ) (s : plan.Initializer) → slice_get (steps_view f) i ≡ Some s → is_side_effect s ≡ true
      → IsStage g f i s
  pub ends : EndsWithEffect (steps_view f)
  -- what they depend on has its number
  pub here : All (HasNumber f) (ids_in_all g (take i g.side_effects))
  -- and the steps name the trampolines and intrinsics among it
  pub named : AreNamed f f.steps (ids_in_all g (take i g.side_effects))
  -- only what they lead to has a number
  pub used : (y : Id) → HasNumber f y
      → (x : Id) × Contains (ids_in_all g (take i g.side_effects)) x × IsUsedBy g x y
  pub instances : length f.instances ≡ made_before g i
  pub resources : f.resources ≡ map (λ (r : Resource). r.instance) (take (declared_before g i) g.resources)
  pub stands : (ms : List ModuleTranslation) (trace : List (Entry Mark)) → IsWired g ms
      → AllZip (MeansEffect g) (take i g.side_effects) trace → Stands g ms f trace
