-- When a plan has no number left: its graph has too many entries of some kind.
use Rattle.std.specs.Prelude.{◌+◌, ◌<◌, length}
use Rattle.pc_spec_plan.specs.PlanView as plan
use Rattle.pc_dfg.specs.declared.dfg.ComponentDfg.{ComponentDfg}
use Rattle.pc_dfg.specs.Numbers.{slots_of}

-- a graph has more entries of some kind than a plan has numbers for
pub data HasTooMany (g : ComponentDfg) : Type 0 where
  of_slots : (k : plan.SlotKind) → 4294967294 < length (slots_of g k) → HasTooMany g
  of_options : 4294967294 < length g.options → HasTooMany g
  of_trampolines : 4294967294 < length g.trampolines → HasTooMany g
  -- the plan makes the core instances of the graph, and one for each module of adapters
  of_instances : 4294967294 < length g.instances + length g.adapter_modules → HasTooMany g
  -- it counts the imported and the declared resources together
  of_resources : 4294967294 < length g.imported_resources + length g.resources → HasTooMany g
