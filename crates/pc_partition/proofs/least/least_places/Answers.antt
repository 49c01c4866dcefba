-- One place more.
use Rattle.std.proofs.Common.{◌≡◌, ◌<◌, length, Some, refl, arith}
use Rattle.std.specs.Prelude.{slice_get}
use Rattle.std.proofs.lemmas.Option.{slice_get_read}
use Rattle.pc_partition.specs.Least.{Share}
use Rattle.pc_partition.proofs.FirstLemmas.{told_next}
use Rattle.pc_partition.proofs.least.least_places.Goals as goal

pub loop-place-preserved : goal.loop-place-preserved
loop-place-preserved g c =
    let keys = c.args.keys.now in
    let place = c.loop-place.place in
    let within : place < length keys = omega arith in
    let key = c.index-keys-place.result in
    let at : slice_get keys place ≡ Some key =
    slice_get_read keys (length keys) place key refl within c.index-keys-place.is in
    let s = c.in_ok-first.ensures keys c.loop-place.invariant.firsts at in
    let told = told_next (Share keys) place _ _ c.loop-place.invariant.told s.shares s.first in
    record { firsts = s.firsts; told = rw c.in_ok-push.ensures.ok told }
