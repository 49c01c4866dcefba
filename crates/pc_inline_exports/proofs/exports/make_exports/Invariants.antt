use Rattle.pc_inline_exports.proofs.ExportAllLemmas.{SoFar}
use Rattle.pc_inline_exports.proofs.exports.make_exports.Given as goal

abbrev pub invariant-loop-export : goal.invariant-loop-export
invariant-loop-export l =
    SoFar l.context.table.now l.context.modules l.exports l.fn.state l.fn.frame l.export-index l.number l.state l.frame
