use Rattle.std.proofs.Common.{All, length, reverse}
use Rattle.pc_dfg_finish.specs.Exports.{IsConverted}
use Rattle.pc_dfg_finish.specs.Taken.{CanConvert}
use Rattle.pc_dfg_finish.proofs.TakenLemmas.{Completes}
use Rattle.pc_dfg_finish.proofs.exports.items_of.Given as goal

abbrev pub invariant-loop-export : goal.invariant-loop-export
invariant-loop-export l =
    All (CanConvert l.graph l.types l.finish) l.left.items
    × Completes (IsConverted l.graph l.types l.finish) l.fn.exports.items l.left.items (reverse l.items.items)

abbrev pub decreases-loop-export : goal.decreases-loop-export
decreases-loop-export l = length l.left.items
