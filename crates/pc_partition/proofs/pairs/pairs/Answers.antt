-- One pair more.
use Rattle.std.proofs.Common.{◌≡◌, ◌<◌, ◌≤◌, ◌+◌, length, subst, sym, arith}
use Rattle.std.specs.Prelude.{min}
use Rattle.std.proofs.lemmas.Option.{slice_get-get_or}
use Rattle.pc_partition.specs.Pairs.{AreSoFar}
use Rattle.pc_partition.proofs.PairLemmas.{all_pairs, one_more}
use Rattle.pc_partition.proofs.pairs.pairs.Goals as goal

pub loop-place-preserved : goal.loop-place-preserved
loop-place-preserved c =
    let a = c.args.a.now in
    let b = c.args.b.now in
    let place = c.loop-place.place in
    let size : c.shorter-size.result ≡ min (length a) (length b) = c.shorter-size.ensures in
    let test : place < c.shorter-size.result = c.loop-place-test.true in
    let in_a : place < length a = omega (arith, test, size) in
    let in_b : place < length b = omega (arith, test, size) in
    subst (AreSoFar a b (place + 1)) (sym c.in_ok-push.ensures.items)
    (one_more a b place c.loop-place.keys.items _ _ c.loop-place.invariant
    (slice_get-get_or a place 0 in_a) (slice_get-get_or b place 0 in_b))

pub returns : goal.returns
returns c =
    let a = c.args.a.now in
    let b = c.args.b.now in
    let place = c.loop-place.place in
    let size : c.shorter-size.result ≡ min (length a) (length b) = c.shorter-size.ensures in
    let low : place ≤ c.shorter-size.result = c.loop-place.auto.place-end in
    let high : c.shorter-size.result ≤ place = c.loop-place-test.false in
    all_pairs a b place c.loop-place.keys.items (omega (arith, size, low, high)) c.loop-place.invariant
