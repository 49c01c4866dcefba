use Rattle.std.proofs.Common.{sym, ap, ◌∙◌, slice_get, arith}
use Rattle.pc_types.specs.Intrinsic.{intrinsic_names}
use Rattle.pc_types.proofs.IntrinsicLemmas.{not_before_next, not_there}
use Rattle.pc_types.proofs.intrinsic.UnsafeIntrinsic.from_str.Goals as goal

pub loop-place-preserved : goal.loop-place-preserved
loop-place-preserved c =
    not_before_next intrinsic_names c.args.s.now c.loop-place.place c.name.result.now
    (ap (slice_get intrinsic_names) (sym c.from_u32-intrinsic.ensures) ∙ c.name.ensures)
    c.eq.result c.eq.ensures c.if-eq.false c.loop-place.invariant

pub returns-clause-unknown : goal.returns-clause-unknown
returns-clause-unknown c =
    not_there intrinsic_names c.args.s.now (λ k within. c.loop-place.invariant k (omega (arith, within)))
