use Rattle.std.proofs.Common.{reverse}
use Rattle.pc_types_convert.proofs.NeededLemmas.{Going, top}
use Rattle.pc_types_convert.proofs.parts.needed.Given as goal

abbrev pub invariant-loop-k : goal.invariant-loop-k
invariant-loop-k l = Going l.fn.table l.fn.done.all l.fn.n l.opened.keys (reverse l.order.items)

abbrev pub decreases-loop-k : goal.decreases-loop-k
decreases-loop-k l = top l.opened.keys
