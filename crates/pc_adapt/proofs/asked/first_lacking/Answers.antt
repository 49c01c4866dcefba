use Rattle.std.proofs.Common.{◌≡◌, ◌<◌, length, refl, sym, ap, ◌∙◌, arith}
use Rattle.std.specs.Prelude.{Some, slice_get}
use Rattle.std.proofs.lemmas.Option.{slice_get_read}
use Rattle.pc_adapt.proofs.LackLemmas.{have_more, lacks_here, none_lacks}
use Rattle.pc_adapt.proofs.asked.first_lacking.Goals as goal

pub returns-then-not-has_options : goal.returns-then-not-has_options
returns-then-not-has_options c who lift lower typed a =
    let g = c.args.graph.now in
    let k = c.loop-place.place in
    let xs = c.as_slice-adapters.result.now in
    let x = c.index-adapters-place.result in
    let values = c.as_slice-adapters.ensures.values in
    let below : k < length xs =
    omega (arith, c.loop-place-test.true, c.len-place-end.ensures.value, ap length values) in
    let at : slice_get g.adapters k ≡ Some x =
    sym (ap (λ ys. slice_get ys k) values) ∙ slice_get_read xs (length xs) k x refl below c.index-adapters-place.is in
    lacks_here g lift lower k x c.has_options.result at (c.has_options.ensures who (lift k) (lower k) (typed k x at))
    c.if-not-has_options.true (c.loop-place.invariant who lift lower typed) a

pub loop-place-preserved : goal.loop-place-preserved
loop-place-preserved c who lift lower typed =
    let g = c.args.graph.now in
    let k = c.loop-place.place in
    let xs = c.as_slice-adapters.result.now in
    let x = c.index-adapters-place.result in
    let values = c.as_slice-adapters.ensures.values in
    let below : k < length xs =
    omega (arith, c.loop-place-test.true, c.len-place-end.ensures.value, ap length values) in
    let at : slice_get g.adapters k ≡ Some x =
    sym (ap (λ ys. slice_get ys k) values) ∙ slice_get_read xs (length xs) k x refl below c.index-adapters-place.is in
    have_more g lift lower k x c.has_options.result at (c.has_options.ensures who (lift k) (lower k) (typed k x at))
    c.if-not-has_options.false (c.loop-place.invariant who lift lower typed)

pub returns : goal.returns
returns c who lift lower typed a =
    none_lacks c.args.graph.now lift lower
    (λ b below y at. c.loop-place.invariant who lift lower typed b
    (omega (arith, below, c.loop-place-test.false, c.len-place-end.ensures.value)) y at) a
