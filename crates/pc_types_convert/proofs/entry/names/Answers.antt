use Rattle.std.proofs.Common.{arith}
use Rattle.pc_types_convert.proofs.PartLemmas.{names_next}
use Rattle.pc_types_convert.proofs.entry.names.Goals as goal

pub loop-item-preserved : goal.loop-item-preserved
loop-item-preserved g c =
    names_next c.args.items.now c.loop-item.item-index c.item-item.result _ _ _ (omega arith) c.item-item.is
    c.loop-item.invariant c.in_ok-try_clone.ensures c.in_ok-push.ensures.ok
