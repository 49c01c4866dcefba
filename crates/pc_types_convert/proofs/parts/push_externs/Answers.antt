use Rattle.std.proofs.Common.{arith}
use Rattle.pc_types_convert.specs.Needed.{extern_parts}
use Rattle.pc_types_convert.proofs.AmongLemmas.{pushed_next}
use Rattle.pc_types_convert.proofs.parts.push_externs.Goals as goal

pub loop-item-preserved : goal.loop-item-preserved
loop-item-preserved c =
    let l = c.loop-item in
    pushed_next extern_parts c.args.externs.now l.item-index c.item-item.result c.args.ns.now.items l.ns.items
    c.push_entity.new.ns.items
    (omega arith) c.item-item.is l.invariant c.in_ok-push_entity.ensures
