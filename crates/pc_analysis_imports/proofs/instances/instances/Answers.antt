use Rattle.std.proofs.Common.{refl, sym, ◌∙◌}
use Rattle.std.specs.Prelude.{length}
use Rattle.std.proofs.lemmas.Option.{slice_get_read}
use Rattle.pc_analysis_imports.proofs.FoldLemmas.{after_none, instances_next}
use Rattle.pc_analysis_imports.proofs.instances.instances.Goals as goal

pub loop-step-init : goal.loop-step-init
loop-step-init c = c.new-made.ensures ∙ sym (after_none c.args.records.now _)

pub loop-step-preserved : goal.loop-step-preserved
loop-step-preserved c =
    let xs = c.args.steps.now in
    let k = c.loop-step.step-index in
    let x = c.step-item.result in
    instances_next c.args.records.now xs k x _ _
    (slice_get_read xs (length xs) k x refl c.loop-step-test.true c.step-item.is) c.loop-step.invariant
    c.in_ok-add.ensures
