-- What is recorded of the modules of a plan.
use Rattle.std.specs.Prelude.{List, map}
use Rattle.pc_info.specs.declared.component.ComponentTranslation.{ComponentTranslation}
use Rattle.pc_info.specs.declared.module.ModuleTranslation.{ModuleTranslation}
use Rattle.pc_info.specs.Modules.{module_view}
use Rattle.pc_info.specs.View.{view}
use Rattle.pc_spec_facts.specs.Recorded.{facts_at}
use Rattle.pc_spec_wiring.specs.Facts.{AreExact}

-- of each module of a plan exactly that is recorded which the plan gives
unfoldable pub HasFacts : ComponentTranslation → List ModuleTranslation → Type 0
HasFacts plan modules = AreExact (view plan modules) (map module_view modules) (facts_at modules)
