use Rattle.std.proofs.Common.{sym, ap, ◌∙◌}
use Rattle.std.specs.Prelude.{slice_get}
use Rattle.std.proofs.lemmas.Option.{slice_get-get_or}
use Rattle.pc_analysis_transparent.specs.Opened.{by_trampoline}
use Rattle.pc_analysis_transparent.proofs.SetLemmas.{with_more}
use Rattle.pc_analysis_transparent.proofs.opaque.mark_trampolines.Goals as goal

pub loop-signed-preserved : goal.loop-signed-preserved
loop-signed-preserved c =
    let g = c.args.graph.now in
    let k = c.loop-signed.signed-index in
    let xs = c.as_slice-signed-items.result.now in
    let at = sym (ap (λ ys. slice_get ys k) c.as_slice-signed-items.ensures.values)
    ∙ slice_get-get_or xs k _ c.loop-signed-test.true in
    with_more (by_trampoline g) g.trampolines k _ _ _ _ at c.loop-signed.invariant c.in_ok-mark_trampoline.ensures
