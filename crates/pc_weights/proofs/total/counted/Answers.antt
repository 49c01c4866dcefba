use Rattle.std.proofs.Common.{arith}
use Rattle.pc_weights.proofs.CountedLemmas.{counted_left, counted_numbered}
use Rattle.pc_weights.proofs.total.counted.Goals as goal

pub returns : goal.returns
returns c =
    let t = c.args.table.now in
    let held = c.args.types_held in
    let ps = c.args.payloads.now in
    let is =
    counted_left t held ps c.saturating_sub-room.result c.after_payloads.result (omega arith)
    c.after_payloads.ensures in
    record { counted = is; numbered = counted_numbered t held ps _ is }
