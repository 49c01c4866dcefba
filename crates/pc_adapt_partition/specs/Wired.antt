-- What has to be known of a graph and its modules, so that the graph stays wired when its adapters get modules.
use Rattle.std.specs.Prelude.{◌≡◌, ◌<◌, ℕ, true, List, [], length, filter, Some, slice_get}
use Rattle.pc_spec_plan.specs.CoreValue.{CoreValue}
use Rattle.pc_trampoline.specs.declared.part.Mark.{Mark}
use Rattle.pc_info.specs.declared.module.ModuleTranslation.{ModuleTranslation}
use Rattle.pc_info.specs.Modules.{is_adapter_module}
use Rattle.pc_dfg.specs.declared.adapter.Adapter.{Adapter}
use Rattle.pc_dfg.specs.declared.core_def.CoreDef.{CoreDef}
use Rattle.pc_dfg.specs.declared.core_def.CoreDef.TheVariants as def
use Rattle.pc_dfg.specs.declared.dfg.ComponentDfg.{ComponentDfg}
use Rattle.pc_dfg.specs.Means.{Means}
use Rattle.pc_dfg_linearize.specs.Wired.{is_function}

-- all modules were handed in: none is one of adapters
abbrev pub AreHandedIn : List ModuleTranslation → Type 0
AreHandedIn ms = filter is_adapter_module ms ≡ []

-- each adapter has the value of its number
abbrev pub HaveValues : ComponentDfg → (ℕ → CoreValue Mark) → Type 0
HaveValues g vs = (a : ℕ) → a < length g.adapters → Means g (def.Adapter (record { 0 = a })) (vs a)

-- callbacks and post-return functions of the lifts of adapters are functions
pub record LiftFunctions (g : ComponentDfg) : Type 0 where
  pub callbacks : (a : ℕ) (x : Adapter) (d : CoreDef) → slice_get g.adapters a ≡ Some x
      → x.lift_options.callback ≡ Some d → is_function d ≡ true
  pub post_returns : (a : ℕ) (x : Adapter) (d : CoreDef) → slice_get g.adapters a ≡ Some x
      → x.lift_options.post_return ≡ Some d → is_function d ≡ true
