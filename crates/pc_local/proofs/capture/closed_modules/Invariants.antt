use Rattle.std.proofs.Common.{◌≡◌, map, take}
use Rattle.pc_local.specs.Standing.{module_variable}
use Rattle.pc_local.proofs.capture.closed_modules.Given as goal

abbrev pub invariant-loop-variable : goal.invariant-loop-variable
invariant-loop-variable l = map module_variable l.vars.items ≡ take l.variable-index l.variables
