use Rattle.std.proofs.Common.{take}
use Rattle.pc_dfg_linearize.specs.Arguments.{NumbersAll, host_defs}
use Rattle.pc_dfg_finish.proofs.arguments.number_host.Given as goal

abbrev pub invariant-loop-place : goal.invariant-loop-place
invariant-loop-place l = NumbersAll l.graph l.initial.finish l.finish (host_defs (take l.place l.args))
