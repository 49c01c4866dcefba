use Rattle.std.proofs.Common.{◌≡◌, length, refl, sym, ap, ◌∙◌}
use Rattle.std.specs.Prelude.{Some, slice_get}
use Rattle.std.proofs.lemmas.Option.{slice_get_read}
use Rattle.pc_analysis_transparent.specs.Opened.{by_export}
use Rattle.pc_analysis_transparent.proofs.SetLemmas.{with_more}
use Rattle.pc_analysis_transparent.proofs.opaque.mark_exports.Goals as goal

pub loop-item-preserved : goal.loop-item-preserved
loop-item-preserved c =
    let g = c.args.graph.now in
    let k = c.loop-item.item-index in
    let xs = c.as_slice-item-items.result.now in
    let x = c.item-item.result in
    let at : slice_get g.export_items k ≡ Some x =
    sym (ap (λ ys. slice_get ys k) c.as_slice-item-items.ensures)
    ∙ slice_get_read xs (length xs) k x refl c.loop-item-test.true c.item-item.is in
    with_more (by_export g) g.export_items k x _ _ _ at c.loop-item.invariant c.in_ok-mark_export.ensures
