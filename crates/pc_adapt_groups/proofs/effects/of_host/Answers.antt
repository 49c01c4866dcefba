use Rattle.pc_adapt_groups.proofs.GivesLemmas.{gives_none, gives_host_more}
use Rattle.pc_adapt_groups.proofs.effects.of_host.Goals as goal

pub loop-place-init : goal.loop-place-init
loop-place-init c = gives_none c.args.reaches.now

pub loop-place-preserved : goal.loop-place-preserved
loop-place-preserved c =
    gives_host_more c.args.reaches.now c.args.args.now c.loop-place.place
    (c.entry_at.result.0.now, c.entry_at.result.1.now) c.loop-place.reach c.of_named.result c.join-reach.result
    c.entry_at.ensures c.loop-place.invariant c.of_named.ensures c.join-reach.ensures
