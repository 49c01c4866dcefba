use Rattle.std.proofs.Common.{take}
use Rattle.pc_dfg_linearize.specs.Arguments.{NumbersAll}
use Rattle.pc_dfg_finish.proofs.arguments.number_all.Given as goal

abbrev pub invariant-loop-def : goal.invariant-loop-def
invariant-loop-def l = NumbersAll l.graph l.initial.finish l.finish (take l.def-index l.defs)
