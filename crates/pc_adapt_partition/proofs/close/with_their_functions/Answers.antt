use Rattle.std.proofs.Common.{arith}
use Rattle.pc_adapt_partition.proofs.StepLemmas.{with_step}
use Rattle.pc_adapt_partition.proofs.close.with_their_functions.Goals as goal

pub loop-place-preserved : goal.loop-place-preserved
loop-place-preserved c =
    with_step c.args.function c.loop-place.place c.args.records c.as_slice.result.now _ c.from_u32-func.result
    c.loop-place.numbered c.push.new.self (omega (arith, c.loop-place-test.true, c.len-place-end.ensures))
    c.as_slice.ensures c.loop-place.invariant
    c.from_u32-func.ensures c.in_ok-push.ensures.ok
