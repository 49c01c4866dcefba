use Rattle.std.proofs.Common.{◌≡◌, map, take}
use Rattle.pc_local.specs.Standing.{component_variable}
use Rattle.pc_local.proofs.capture.closed_components.Given as goal

abbrev pub invariant-loop-variable : goal.invariant-loop-variable
invariant-loop-variable l = map component_variable l.vars.items ≡ take l.variable-index l.variables
