use Rattle.std.proofs.Common.{◌≡◌, ◌+◌, length, refl, sym, ap, subst, ◌∙◌}
use Rattle.std.specs.Prelude.{Some, slice_get}
use Rattle.std.proofs.lemmas.Option.{slice_get_read}
use Rattle.pc_analysis_contexts.proofs.StartLemmas.{AreParted, parted_more}
use Rattle.pc_analysis_contexts.proofs.partitions.start.Goals as goal

pub loop-export-preserved : goal.loop-export-preserved
loop-export-preserved c =
    let es = c.args.graph.now.export_items in
    let k = c.loop-export.export-index in
    let xs = c.as_slice-export-items.result.now in
    let x = c.export-item.result in
    let at : slice_get es k ≡ Some x =
    sym (ap (λ ys. slice_get ys k) c.as_slice-export-items.ensures)
    ∙ slice_get_read xs (length xs) k x refl c.loop-export-test.true c.export-item.is in
    subst (AreParted es (k + 1) c.args.count) (sym c.part.ensures)
    (parted_more es k c.args.count c.loop-export.partitions.items c.loop-export.invariant x at)
