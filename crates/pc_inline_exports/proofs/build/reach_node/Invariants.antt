use Rattle.pc_inline_exports.specs.Building.{Working, work}
use Rattle.pc_inline_exports.proofs.build.reach_node.Given as goal

abbrev pub invariant-parts : goal.invariant-parts
invariant-parts l =
    Working l.context.table.now l.context.modules l.fn.state l.fn.found.definition l.state l.stack

abbrev pub decreases-parts : goal.decreases-parts
decreases-parts l = work l.stack
