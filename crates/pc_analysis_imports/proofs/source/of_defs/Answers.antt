use Rattle.std.proofs.Common.{refl}
use Rattle.std.specs.Prelude.{length}
use Rattle.std.proofs.lemmas.Option.{slice_get_read}
use Rattle.pc_analysis_imports.specs.Followed.{source_of}
use Rattle.pc_analysis_imports.proofs.FoldLemmas.{pushed_next}
use Rattle.pc_analysis_imports.proofs.source.of_defs.Goals as goal

pub loop-def-preserved : goal.loop-def-preserved
loop-def-preserved c =
    let xs = c.args.defs.now in
    let k = c.loop-def.def-index in
    let x = c.def-item.result in
    pushed_next (source_of c.args.records.now c.args.instances.now) xs k x _ _ _
    (slice_get_read xs (length xs) k x refl c.loop-def-test.true c.def-item.is) c.loop-def.invariant c.of_def.ensures
    c.in_ok-push.ensures.ok
