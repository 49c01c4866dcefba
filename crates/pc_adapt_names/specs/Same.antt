-- What definitions of a graph name, and what values name.
use Rattle.std.specs.Prelude.{ℕ, List, Contains}
use Rattle.pc_spec_plan.specs.CoreValue.{CoreValue}
use Rattle.pc_trampoline.specs.declared.part.Mark.{Mark}
use Rattle.pc_dfg.specs.declared.core_def.CoreDef.{CoreDef}
use Rattle.pc_dfg.specs.declared.core_def.CoreDef.TheVariants as def
use Rattle.pc_dfg.specs.declared.dfg.ComponentDfg.{ComponentDfg}
use Rattle.pc_dfg.specs.declared.ids.AdapterId.{AdapterId}
use Rattle.pc_dfg.specs.Means.{Means}
use Rattle.pc_dfg.specs.Names.{Thing, an_instance, an_adapter, OneNames}
use Rattle.pc_spec_adapt.specs.Named as value
use Rattle.pc_spec_adapt.specs.Named.{Named}

-- what is named by number stands for what is named: the same core instance, or an adapter of this value
pub data Stands (g : ComponentDfg) : Thing → Named Mark → Type 0 where
  stands_instance : {n : ℕ} → Stands g (an_instance n) (value.an_instance n)
  stands_adapter : {a : AdapterId} {v : CoreValue Mark} → Means g (def.Adapter a) v
      → Stands g (an_adapter a.0) (value.an_adapter v)

-- what these definitions name stands for what is named there, and the other way round
pub record SameNames (g : ComponentDfg) (ds : List CoreDef) (ns : List (Named Mark)) : Type 0 where
  pub there : (y : Thing) → OneNames g ds y → (n : Named Mark) × Contains ns n × Stands g y n
  pub back : (n : Named Mark) → Contains ns n → (y : Thing) × OneNames g ds y × Stands g y n
