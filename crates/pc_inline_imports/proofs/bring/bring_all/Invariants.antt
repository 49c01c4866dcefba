use Rattle.pc_inline_imports.proofs.BringLemmas.{BroughtSoFar}
use Rattle.pc_inline_imports.proofs.bring.bring_all.Given as goal

-- the first are in the graph
abbrev pub invariant-loop-one : goal.invariant-loop-one
invariant-loop-one l =
    BroughtSoFar l.context.table.now l.context.modules l.paths l.found l.fn.state l.state l.one-index
