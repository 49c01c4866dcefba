use Rattle.std.proofs.Common.{length, refl}
use Rattle.std.proofs.lemmas.Option.{slice_get_read}
use Rattle.pc_analysis_transparent.proofs.ContextLemmas.{uses_def_more}
use Rattle.pc_analysis_transparent.proofs.context.of_defs.Goals as goal

pub loop-def-preserved : goal.loop-def-preserved
loop-def-preserved c =
    let ds = c.args.defs.now in
    let i = c.loop-def.def-index in
    let d = c.def-item.result in
    uses_def_more ds i d c.loop-def.uses c.of_def-uses.result
    (slice_get_read ds (length ds) i d refl c.loop-def-test.true c.def-item.is) c.loop-def.invariant
    c.of_def-uses.ensures
