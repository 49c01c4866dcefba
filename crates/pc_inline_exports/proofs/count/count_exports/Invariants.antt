use Rattle.pc_inline_exports.specs.Counting.{CountedSoFar}
use Rattle.pc_inline_exports.proofs.count.count_exports.Given as goal

abbrev pub invariant-loop-export : goal.invariant-loop-export
invariant-loop-export l =
    CountedSoFar l.context.table.now l.context.modules l.exports l.total l.export-index l.number l.nodes l.state l.frame
