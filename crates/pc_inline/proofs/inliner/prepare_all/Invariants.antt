use Rattle.pc_inline.proofs.DriverLemmas.{ItemsPrepared}
use Rattle.pc_inline.proofs.inliner.prepare_all.Given as goal

abbrev pub invariant-loop-n : goal.invariant-loop-n
invariant-loop-n l =
    ItemsPrepared l.context.table.now l.context.modules l.items l.fn.state l.fn.frame l.state l.frame l.n
