use Rattle.std.proofs.Common.{◌<◌, ◌+◌, ◌-◌, length, arith}
use Rattle.pc_local.proofs.CaptureLemmas.{captures_step}
use Rattle.pc_local.proofs.captured.capture.Goals as goal

pub loop-left-preserved : goal.loop-left-preserved
loop-left-preserved c =
    let base = c.len.result - 1 - c.args.count in
    let deep = c.loop-left.invariant.deep in
    let is = c.len.ensures in
    let room = c.requires.within in
    let below = c.loop-left-test.true in
    let within : base + c.loop-left.left + 1 < length c.loop-left.stack.items =
    omega (arith, deep, is, room, below) in
    captures_step c.args.stack.now.items c.loop-left.stack.items base c.loop-left.left c.args.index c.in_ok-place.place
    c.loop-left.variable c.index_mut.result.now c.add.new.self c.loop-left.invariant within c.index_mut.ensures.value
    c.in_ok-place.ensures.grows c.in_ok-place.ensures.held
