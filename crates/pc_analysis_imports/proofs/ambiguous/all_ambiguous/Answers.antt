use Rattle.std.proofs.Common.{refl, sym, ◌∙◌}
use Rattle.std.specs.Prelude.{length}
use Rattle.std.proofs.lemmas.Option.{slice_get_read}
use Rattle.pc_analysis_imports.specs.Marked.{none_marked, shown_in, shown_in_all}
use Rattle.pc_analysis_imports.proofs.FoldLemmas.{marked_more, marked_none}
use Rattle.pc_analysis_imports.proofs.ambiguous.all_ambiguous.Goals as goal

pub loop-step-init : goal.loop-step-init
unfolding shown_in_all
loop-step-init c =
    c.in_ok-found.ensures ∙ sym (marked_none (none_marked (length c.args.records.now)))

pub loop-step-preserved : goal.loop-step-preserved
unfolding shown_in_all
loop-step-preserved c =
    let xs = c.args.steps.now in
    let k = c.loop-step.step-index in
    let x = c.step-item.result in
    marked_more (shown_in c.args.records.now c.args.instances.now c.args.ways.now) xs k x _ _ _
    (slice_get_read xs (length xs) k x refl c.loop-step-test.true c.step-item.is) c.loop-step.invariant
    c.in_ok-add_step.ensures
