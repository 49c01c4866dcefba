use Rattle.std.proofs.Common.{◌≡◌, ◌<◌, ◌+◌, length, refl, sym, ap, subst, ◌∙◌, arith, true≢false}
use Rattle.std.specs.Prelude.{Some, slice_get}
use Rattle.std.proofs.lemmas.Option.{slice_get_read}
use Rattle.pc_analysis_transparent.proofs.TransparentLemmas.{Told, kept, passes, told_all, told_more, told_none}
use Rattle.pc_analysis_transparent.proofs.TransparentLemmas.{told_same}
use Rattle.pc_analysis_transparent.proofs.transparent.transparent_adapters.Goals as goal
use Rattle.pc_analysis_transparent.proofs.transparent.transparent_adapters.Goals.{else-is_transparent}
use Rattle.pc_analysis_transparent.proofs.transparent.transparent_adapters.Goals.{then-is_transparent+in_ok-insert}

pub loop-place-init : goal.loop-place-init
loop-place-init c who lift lower typed =
    subst (λ s. Told c.args.dfg.now lift lower s 0) (sym c.new-transparent.ensures)
    (told_none c.args.dfg.now lift lower)

pub loop-place-preserved : goal.loop-place-preserved
loop-place-preserved c who lift lower typed =
    let g = c.args.dfg.now in
    let k = c.loop-place.place in
    let xs = c.as_slice-adapters.result.now in
    let x = c.index-adapters-place.result in
    let values = c.as_slice-adapters.ensures.values in
    let below : k < length xs =
    omega (arith, c.loop-place-test.true, c.len-place-end.ensures.value, ap length values) in
    let at : slice_get g.adapters k ≡ Some x =
    sym (ap (λ ys. slice_get ys k) values) ∙ slice_get_read xs (length xs) k x refl below c.index-adapters-place.is in
    let all = c.in_ok-opaque.ensures in
    let told = c.is_transparent.ensures who (lift k) (lower k) (typed k x at) in
    let before = c.loop-place.invariant who lift lower typed in
    elim c.if-is_transparent.branch [
      | then-is_transparent+in_ok-insert w ↦
          let here = kept g lift lower c.args.types.now who typed _ all k x at (sym told ∙ w.if-is_transparent.true) in
          subst (λ s. Told g lift lower s (k + 1)) (sym (w.transparent-is ∙ w.in_ok-insert.ensures.ok))
          (told_more g lift lower _ k before here)
      | else-is_transparent w ↦
          subst (λ s. Told g lift lower s (k + 1)) (sym w.transparent-is)
          (told_same g lift lower _ k before
          (λ here.
          true≢false (sym (told ∙ passes g lift lower c.args.types.now who typed _ all k x at here)
          ∙ w.if-is_transparent.false)))
    ]

pub returns : goal.returns
returns c who lift lower typed =
    told_all c.args.dfg.now lift lower c.loop-place.transparent c.loop-place.place
    (c.loop-place.invariant who lift lower typed)
    (omega (arith, c.loop-place-test.false, c.len-place-end.ensures.value))
