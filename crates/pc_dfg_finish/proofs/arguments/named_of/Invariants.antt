use Rattle.std.proofs.Common.{◌≡◌, take}
use Rattle.pc_dfg_linearize.specs.Arguments.{named_in}
use Rattle.pc_dfg_finish.proofs.arguments.named_of.Given as goal

abbrev pub invariant-loop-place : goal.invariant-loop-place
invariant-loop-place l = l.all ≡ named_in l.graph l.finish (take l.place l.args)
