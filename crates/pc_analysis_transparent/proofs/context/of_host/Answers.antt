use Rattle.pc_analysis_transparent.proofs.ContextLemmas.{uses_host_more}
use Rattle.pc_analysis_transparent.proofs.context.of_host.Goals as goal

pub loop-place-preserved : goal.loop-place-preserved
loop-place-preserved c =
    uses_host_more c.args.args.now c.loop-place.place (c.entry_at.result.0.now, c.entry_at.result.1.now)
    c.loop-place.uses c.of_named-uses.result c.entry_at.ensures c.loop-place.invariant c.of_named-uses.ensures
