use Rattle.std.proofs.Common.{◌≡◌, length, refl, sym, ap, ◌∙◌}
use Rattle.std.specs.Prelude.{Some, slice_get}
use Rattle.std.proofs.lemmas.Option.{slice_get_read}
use Rattle.pc_analysis_transparent.specs.Opened.{by_adapter}
use Rattle.pc_analysis_transparent.proofs.SetLemmas.{with_more}
use Rattle.pc_analysis_transparent.proofs.opaque.mark_adapters.Goals as goal

pub loop-adapter-preserved : goal.loop-adapter-preserved
loop-adapter-preserved c =
    let g = c.args.graph.now in
    let k = c.loop-adapter.adapter-index in
    let xs = c.as_slice-adapter-items.result.now in
    let x = c.adapter-item.result in
    let at : slice_get g.adapters k ≡ Some x =
    sym (ap (λ ys. slice_get ys k) c.as_slice-adapter-items.ensures.values)
    ∙ slice_get_read xs (length xs) k x refl c.loop-adapter-test.true c.adapter-item.is in
    with_more (by_adapter c.args.types.now) g.adapters k x _ _ _ at c.loop-adapter.invariant
    c.in_ok-mark_adapter.ensures

pub mark_adapter-requires : goal.mark_adapter-requires
mark_adapter-requires c =
    let g = c.args.graph.now in
    let k = c.loop-adapter.adapter-index in
    let xs = c.as_slice-adapter-items.result.now in
    let x = c.adapter-item.result in
    let at : slice_get g.adapters k ≡ Some x =
    sym (ap (λ ys. slice_get ys k) c.as_slice-adapter-items.ensures.values)
    ∙ slice_get_read xs (length xs) k x refl c.loop-adapter-test.true c.adapter-item.is in
    record { held = (c.requires.held k x at).lift }
