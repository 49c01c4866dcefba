use Rattle.std.proofs.Common.{Some, ap, arith, sym, ◌∙◌}
use Rattle.std.proofs.lemmas.Option.{slice_get-get_or, slice_get_past}
use Rattle.pc_inline_resources.proofs.PlaceLemmas.{export_number_is}
use Rattle.pc_inline_resources.proofs.WalkedLemmas.{later_parent, later_there}
use Rattle.pc_inline_resources.proofs.walked.place_item.Goals as goal

pub returns-in-Some-get : goal.returns-in-Some-get
returns-in-Some-get c v x parent at =
    let differ = c.if-place-eq0.false in
    let found = c.in-Some-get.ensures.lookup in
    c.member_item.ensures x.0
    (export_number_is c.args.place.now.export x _ _ _ _ _ c.export_number.ensures c.requires.sound.names.table at _
    c.in-Some.is) v
    (later_parent _ _ c.args.start c.args.items.now v c.args.place.now.parent (λ is. absurd (omega (arith, is, differ)))
    parent c.in-Some-get.item.now (slice_get-get_or c.args.items.now _ c.in-Some-get.item.now found.3.0
    ∙ ap Some (sym found.1)))

pub returns-in-None : goal.returns-in-None
returns-in-None c v x parent at =
    let differ = c.if-place-eq0.false in
    absurd (later_there _ _ c.args.start c.args.items.now v c.args.place.now.parent
    (λ is. absurd (omega (arith, is, differ))) parent (slice_get_past c.args.items.now _ c.in-None.ensures.lookup.3))
