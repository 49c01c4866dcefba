use Rattle.std.proofs.Common.{take}
use Rattle.pc_inline_items.specs.Members.{ArgumentsSoFar}
use Rattle.pc_inline_items.proofs.members.argument_values.Given as goal

abbrev pub invariant-loop-place : goal.invariant-loop-place
invariant-loop-place l =
    ArgumentsSoFar l.context.table.now l.context.modules (take l.place l.args) l.fn.state l.fn.frame l.state l.frame
    l.values
