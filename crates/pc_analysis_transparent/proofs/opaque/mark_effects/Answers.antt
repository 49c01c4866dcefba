use Rattle.std.proofs.Common.{sym, ap, ◌∙◌}
use Rattle.std.specs.Prelude.{slice_get}
use Rattle.std.proofs.lemmas.Option.{slice_get-get_or}
use Rattle.pc_analysis_transparent.specs.Opened.{by_effect}
use Rattle.pc_analysis_transparent.proofs.SetLemmas.{with_more}
use Rattle.pc_analysis_transparent.proofs.opaque.mark_effects.Goals as goal

pub loop-effect-preserved : goal.loop-effect-preserved
loop-effect-preserved c =
    let g = c.args.graph.now in
    let k = c.loop-effect.effect-index in
    let xs = c.as_slice-effect-items.result.now in
    let at = sym (ap (λ ys. slice_get ys k) c.as_slice-effect-items.ensures)
    ∙ slice_get-get_or xs k _ c.loop-effect-test.true in
    with_more (by_effect g) g.side_effects k _ _ _ _ at c.loop-effect.invariant c.in_ok-mark_effect.ensures
