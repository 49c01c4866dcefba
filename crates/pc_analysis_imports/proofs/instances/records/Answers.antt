use Rattle.std.proofs.Common.{refl, ◌∙◌}
use Rattle.std.specs.Prelude.{length}
use Rattle.std.proofs.lemmas.Option.{slice_get_read}
use Rattle.pc_info.specs.Modules.{module_view}
use Rattle.pc_analysis_imports.proofs.FoldLemmas.{pushed_next}
use Rattle.pc_analysis_imports.proofs.instances.records.Goals as goal

pub loop-held-preserved : goal.loop-held-preserved
loop-held-preserved c =
    let xs = c.args.modules.now in
    let k = c.loop-held.held-index in
    let x = c.held-item.result in
    pushed_next module_view xs k x _ _ _
    (slice_get_read xs (length xs) k x refl c.loop-held-test.true c.held-item.is) c.loop-held.invariant
    (c.in_ok-new.ensures ∙ c.get.ensures) c.in_ok-push.ensures.items
