use Rattle.std.proofs.Common.{◌≡◌, length, ap, subst, arith}
use Rattle.pc_dfg_linearize.specs.Made.{DoneBefore}
use Rattle.pc_dfg_finish.proofs.ArgumentLemmas.{item_read}
use Rattle.pc_dfg_finish.proofs.DoneLemmas.{done_next, is_next}
use Rattle.pc_dfg_finish.proofs.OutgrownLemmas.{done_too_many}
use Rattle.pc_dfg_finish.proofs.effects.do_effects.Goals as goal

pub do_effect-requires-clause-next : goal.do_effect-requires-clause-next
do_effect-requires-clause-next c =
    is_next c.args.graph.now c.requires.ordered c.loop-effect.effect-index c.loop-effect.finish
    c.loop-effect.invariant.0 _
    (item_read _ _ _ _ c.as_slice-effect-items.ensures c.loop-effect-test.true)

pub do_effect-requires-clause-fits : goal.do_effect-requires-clause-fits
do_effect-requires-clause-fits c = c.loop-effect.invariant.0.fits

pub loop-effect-preserved : goal.loop-effect-preserved
loop-effect-preserved c = (
  done_next c.args.graph.now c.requires.ordered c.loop-effect.effect-index c.loop-effect.finish
      c.loop-effect.invariant.0 _
      (item_read _ _ _ _ c.as_slice-effect-items.ensures c.loop-effect-test.true) c.do_effect.new.finish
      c.in_ok-do_effect.ensures.done,
  c.in_ok-do_effect.ensures.instantiated c.loop-effect.invariant.0.counts c.loop-effect.invariant.1,
)

pub returns-clause-done : goal.returns-clause-done
returns-clause-done c =
    let g = c.args.graph.now in
    let items = c.as_slice-effect-items.ensures in
    let long = ap length items in
    let ended : c.loop-effect.effect-index ≡ length g.side_effects = omega (arith, long) in
    subst (λ n. DoneBefore g n c.loop-effect.finish) ended c.loop-effect.invariant.0

pub returns-clause-instantiated : goal.returns-clause-instantiated
returns-clause-instantiated c = c.loop-effect.invariant.1

pub returns-in_err-do_effect-clause-full : goal.returns-in_err-do_effect-clause-full
returns-in_err-do_effect-clause-full c is =
    let too_many = rw is at c.from_residual.ensures.1 in
    let full = c.in_err-do_effect.ensures.full (cc too_many) in
    done_too_many c.args.graph.now c.requires.ordered c.loop-effect.effect-index c.loop-effect.finish
    c.loop-effect.invariant.0 full
