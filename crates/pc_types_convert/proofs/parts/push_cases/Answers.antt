use Rattle.std.proofs.Common.{arith}
use Rattle.pc_types_convert.specs.Needed.{case_parts}
use Rattle.pc_types_convert.proofs.AmongLemmas.{pushed_next}
use Rattle.pc_types_convert.proofs.parts.push_cases.Goals as goal

pub loop-case-preserved : goal.loop-case-preserved
loop-case-preserved c =
    let l = c.loop-case in
    pushed_next case_parts c.args.cases.now l.case-index c.case-item.result c.args.ns.now.items l.ns.items
    c.push_maybe.new.ns.items
    (omega arith) c.case-item.is l.invariant c.in_ok-push_maybe.ensures
