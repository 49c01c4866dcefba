use Rattle.std.proofs.Common.{take}
use Rattle.pc_inline_items.specs.Members.{ExportsSoFar}
use Rattle.pc_inline_items.proofs.members.export_members.Given as goal

abbrev pub invariant-loop-place : goal.invariant-loop-place
invariant-loop-place l =
    ExportsSoFar l.context.table.now l.context.modules (take l.place l.exports) l.fn.state l.fn.frame l.state
    l.frame l.members
