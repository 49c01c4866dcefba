use Rattle.std.proofs.Common.{arith}
use Rattle.pc_inline_exports.proofs.CountedLemmas.{more_counted, more_crowded, more_refused}
use Rattle.pc_inline_exports.proofs.count.count_more.Goals as goal

pub returns-then-from-ge-FULL : goal.returns-then-from-ge-FULL
returns-then-from-ge-FULL c = more_crowded _ _ _ _ (omega arith)

pub returns-in-Some : goal.returns-in-Some
returns-in-Some c = more_refused _ _ _ _ _ (omega arith) c.in-Some.is

pub returns-in-None : goal.returns-in-None
returns-in-None c = more_counted _ _ _ _ _ (omega arith) (omega arith) c.in-None.is
