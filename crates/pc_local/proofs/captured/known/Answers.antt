use Rattle.std.proofs.Common.{◌<◌, ◌+◌, length, arith}
use Rattle.pc_local.proofs.CaptureLemmas.{known_reads}
use Rattle.pc_local.proofs.captured.known.Goals as goal

pub returns-in-Some-clause-reads : goal.returns-in-Some-clause-reads
returns-in-Some-clause-reads c =
    let room = c.requires.within in
    let left = c.loop-left.invariant in
    let within : c.args.base + c.loop-left.left < length c.args.stack.now = omega (arith, room, left) in
    known_reads c.args.stack.now c.args.base c.loop-left.left c.args.index c.in-Some.place c.index-stack-base.result
    within c.index-stack-base.is c.loop-left-test.true c.in-Some.ensures
