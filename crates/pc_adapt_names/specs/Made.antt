-- A graph whose adapters and side effects are those of a log.
use Rattle.std.specs.Prelude.{◌≡◌, ℕ, List, length, Some, slice_get}
use Rattle.pc_spec_plan.specs.CoreValue.{CoreValue}
use Rattle.pc_spec_plan.specs.Log.{Entry, trace}
use Rattle.pc_trampoline.specs.declared.part.Mark.{Mark}
use Rattle.pc_dfg.specs.declared.core_def.CoreDef.TheVariants as def
use Rattle.pc_dfg.specs.declared.dfg.ComponentDfg.{ComponentDfg}
use Rattle.pc_dfg.specs.declared.ids.AdapterId.{AdapterId}
use Rattle.pc_dfg.specs.Effects.{EffectsMean}
use Rattle.pc_dfg.specs.Means.{Means}
use Rattle.pc_spec_adapt.specs.Needs.{adapters_of}

-- the adapters have the values that the log makes, in order, no two of them the same, and the side effects do what the
-- trace says
pub record HasMade (g : ComponentDfg) (log : List (Entry Mark)) : Type 0 where
  pub many : length g.adapters ≡ length (adapters_of log)
  pub values : (k : ℕ) (v : CoreValue Mark) → slice_get (adapters_of log) k ≡ Some v
      → Means g (def.Adapter (record { 0 = k })) v
  pub effects : EffectsMean g (trace log)
  pub one : (a b : AdapterId) (v : CoreValue Mark) → Means g (def.Adapter a) v → Means g (def.Adapter b) v → a ≡ b
