use Rattle.std.proofs.Common.{arith}
use Rattle.pc_types_convert.specs.Needed.{field_parts}
use Rattle.pc_types_convert.proofs.AmongLemmas.{pushed_next}
use Rattle.pc_types_convert.proofs.parts.push_fields.Goals as goal

pub loop-field-preserved : goal.loop-field-preserved
loop-field-preserved c =
    let l = c.loop-field in
    pushed_next field_parts c.args.fields.now l.field-index c.field-item.result c.args.ns.now.items l.ns.items
    c.push_val.new.ns.items
    (omega arith) c.field-item.is l.invariant c.in_ok-push_val.ensures
