use Rattle.std.proofs.Common.{◌∷◌, ◌∙◌, [], ap, reverse, subst, sym}
use Rattle.std.proofs.lemmas.List.{reverse-append}
use Rattle.pc_types_convert.specs.Needed.{AreNeeded}
use Rattle.pc_types_convert.proofs.NeededLemmas.{Going, Opens, going_end, going_start, none_open, opens_of_one, round_met}
use Rattle.pc_types_convert.proofs.NeededLemmas.{taken_there}
use Rattle.pc_types_convert.proofs.parts.needed.Goals as goal

pub entry_at-requires : goal.entry_at-requires
entry_at-requires c = taken_there _ _ _ _ _ _ _ c.loop-k.invariant c.in-Some.ensures.removal

pub loop-k-init : goal.loop-k-init
loop-k-init c =
    let t = c.args.table.now in
    let done = c.args.done.now.all in
    let n = c.args.n in
    let opened = c.open_entry.new.opened.keys in
    let first = c.in_ok-open_entry.ensures in
    subst (λ items. Going t done n opened (reverse items)) (sym c.new-order.ensures.items)
    (going_start t done n opened c.requires.there
    (subst (λ ks. Opens done (n ∷ []) ks opened) c.new-opened.ensures.empty
    (opens_of_one done n c.new-opened.result.keys opened first.kept first.met first.only first.fresh)))

pub loop-k-preserved : goal.loop-k-preserved
loop-k-preserved c =
    let now = c.in_ok-open_entries.ensures in
    subst (λ back. Going c.args.table.now c.args.done.now.all c.args.n c.open_entries.new.opened.keys back)
    (sym (ap reverse c.in_ok-push.ensures.items ∙ reverse-append c.loop-k.order.items (c.in-Some.k ∷ [])))
    (round_met _ _ _ _ _ _ _ c.loop-k.invariant c.in-Some.ensures.removal c.requires.sound _ _ _
    c.in-Some.ensures.all_below c.entry_at.ensures (c.as_slice.ensures.value ∙ c.in_ok-named.ensures) now.kept now.met
    now.only now.fresh).0

pub loop-k-smaller : goal.loop-k-smaller
loop-k-smaller c =
    let now = c.in_ok-open_entries.ensures in
    (round_met _ _ _ _ _ _ _ c.loop-k.invariant c.in-Some.ensures.removal c.requires.sound _ _ _
    c.in-Some.ensures.all_below c.entry_at.ensures (c.as_slice.ensures.value ∙ c.in_ok-named.ensures) now.kept now.met
    now.only now.fresh).1

pub returns : goal.returns
returns c =
    let l = c.loop-k in
    let none = none_open l.opened.keys c.in_default.ensures.variant.1 in
    subst (λ order. AreNeeded c.args.table.now c.args.done.now.all c.args.n order) (sym c.reverse.ensures.items)
    (going_end c.args.table.now c.args.done.now.all c.args.n (reverse l.order.items)
    (subst (λ ks. Going c.args.table.now c.args.done.now.all c.args.n ks (reverse l.order.items)) none l.invariant))
