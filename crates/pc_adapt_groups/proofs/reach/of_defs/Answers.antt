use Rattle.std.proofs.Common.{length, refl}
use Rattle.std.proofs.lemmas.Option.{slice_get_read}
use Rattle.pc_adapt_groups.proofs.GivesLemmas.{gives_none, gives_more}
use Rattle.pc_adapt_groups.proofs.reach.of_defs.Goals as goal

pub loop-def-init : goal.loop-def-init
loop-def-init c = gives_none c.args.reaches.now

pub loop-def-preserved : goal.loop-def-preserved
loop-def-preserved c =
    let ds = c.args.defs.now in
    let i = c.loop-def.def-index in
    let d = c.def-item.result in
    gives_more c.args.reaches.now ds i d c.loop-def.reach c.of_def.result c.join-reach.result
    (slice_get_read ds (length ds) i d refl c.loop-def-test.true c.def-item.is) c.loop-def.invariant c.of_def.ensures
    c.join-reach.ensures
