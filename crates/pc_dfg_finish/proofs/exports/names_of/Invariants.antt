use Rattle.std.proofs.Common.{take}
use Rattle.pc_dfg_finish.specs.Exports.{IsNamed}
use Rattle.pc_dfg_finish.proofs.exports.names_of.Given as goal

abbrev pub invariant-loop-place : goal.invariant-loop-place
invariant-loop-place l = IsNamed (take l.place l.fn.map) l.names
