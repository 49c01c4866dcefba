use Rattle.std.proofs.Common.{arith}
use Rattle.std.proofs.lemmas.Option.{slice_get-get_or}
use Rattle.pc_inline_resources.proofs.LoopLemmas.{items_begin, items_go, parent_there}
use Rattle.pc_inline_resources.proofs.walked.items_at.Goals as goal

pub loop-place-init : goal.loop-place-init
loop-place-init c = items_begin _ _ _ _ _ _ c.in_ok-items.ensures

pub place_item-item-requires-clause-parent : goal.place_item-item-requires-clause-parent
place_item-item-requires-clause-parent c =
    parent_there _ _ _ _ _ _ _ c.loop-place.invariant _ (slice_get-get_or _ _ _ c.loop-place-test.true) _
    c.as_slice.ensures c.requires.start c.requires.named

pub loop-place-preserved : goal.loop-place-preserved
loop-place-preserved c =
    items_go _ _ _ _ _ _ _ c.loop-place.invariant _ (slice_get-get_or _ _ _ c.loop-place-test.true) _
    c.as_slice.ensures _ c.place_item-item.ensures _ c.in_ok-push.ensures.ok

pub returns : goal.returns
returns c v is names named =
    let many = c.loop-place.invariant.1 in
    let past = c.loop-place-test.false in
    let end = c.loop-place.auto.place-index-end in
    (c.loop-place.invariant.0 v is names named, omega (arith, many, past, end))
