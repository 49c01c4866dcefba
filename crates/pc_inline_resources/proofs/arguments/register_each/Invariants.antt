use Rattle.pc_inline_resources.proofs.EachLemmas.{EachSoFar}
use Rattle.pc_inline_resources.proofs.arguments.register_each.Given as goal

-- those before the place are known
abbrev pub invariant-loop-one : goal.invariant-loop-one
invariant-loop-one l =
    EachSoFar l.context.table.now l.context.modules l.all l.fn.state l.fn.frame l.one-index l.state l.frame
