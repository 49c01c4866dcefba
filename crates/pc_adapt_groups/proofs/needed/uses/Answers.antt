use Rattle.std.proofs.Common.{sym, ap, ◌∙◌}
use Rattle.std.specs.Prelude.{slice_get}
use Rattle.std.proofs.lemmas.Option.{slice_get-get_or}
use Rattle.pc_adapt_groups.proofs.StepLemmas.{effect_reach, effects_more}
use Rattle.pc_adapt_groups.proofs.needed.uses.Goals as goal

pub loop-effect-preserved : goal.loop-effect-preserved
loop-effect-preserved c =
    let g = c.args.graph.now in
    let i = c.loop-effect.effect-index in
    let xs = c.as_slice-effect-items.result.now in
    let r = c.of_effect.result in
    let at = sym (ap (λ ys. slice_get ys i) c.as_slice-effect-items.ensures)
    ∙ slice_get-get_or xs i _ c.loop-effect-test.true in
    let reach = effect_reach g c.requires.ordered c.args.reaches.now _ r c.requires.known c.requires.all
    c.of_effect.ensures in
    let more = effects_more g c.loop-effect.uses.items c.note.new.uses.items i c.loop-effect.used c.max-used.result _ r
    c.loop-effect.invariant.used c.loop-effect.invariant.known c.loop-effect.invariant.many at reach
    c.max-used.ensures c.in_ok-note.ensures in
    record { used = more.0; known = more.1; many = more.2 }
