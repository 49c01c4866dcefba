use Rattle.std.proofs.Common.{take}
use Rattle.pc_dfg_linearize.specs.Arguments.{NumbersAll, named_defs}
use Rattle.pc_dfg_finish.proofs.arguments.number_named.Given as goal

abbrev pub invariant-loop-place : goal.invariant-loop-place
invariant-loop-place l = NumbersAll l.graph l.initial.finish l.finish (named_defs (take l.place l.args))
