use Rattle.std.proofs.Common.{◌≡◌, take}
use Rattle.pc_dfg_linearize.specs.Arguments.{host_in}
use Rattle.pc_dfg_finish.proofs.arguments.host_of.Given as goal

abbrev pub invariant-loop-place : goal.invariant-loop-place
invariant-loop-place l = l.all ≡ host_in l.graph l.finish (take l.place l.args)
