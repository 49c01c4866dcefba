use Rattle.pc_adapt_groups.proofs.StepLemmas.{reaches_step}
use Rattle.pc_adapt_groups.proofs.trampolines.reaches.Goals as goal

pub loop-signed-preserved : goal.loop-signed-preserved
loop-signed-preserved c =
    let more = reaches_step c.args.graph.now c.requires.ordered c.loop-signed.reaches.items c.deref.result.now
    c.push.new.self.items c.as_slice-signed-items.result.now c.loop-signed.signed-index _ c.of_signed-reach.result
    c.as_slice-signed-items.ensures.values c.loop-signed-test.true c.deref.ensures.value
    c.loop-signed.invariant.known c.loop-signed.invariant.all c.of_signed-reach.ensures
    c.in_ok-push.ensures.items in
    record { known = more.0; all = more.1 }
