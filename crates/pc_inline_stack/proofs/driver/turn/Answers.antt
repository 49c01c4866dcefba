use Rattle.std.proofs.Common.{◌≤◌, ◌∙◌, length, ap, refl, sym, subst}
use Rattle.pc_local.specs.declared.item.Translation.{Translation}
use Rattle.pc_inline_canon.proofs.GotLemmas.{got_some}
use Rattle.pc_inline_stack.proofs.MovesLemmas.{counted_popped, none_wait}
use Rattle.pc_inline_stack.proofs.NamesLemmas.{item_numbered}
use Rattle.pc_inline_stack.proofs.TurnLemmas.{left_off, left_on, turned_last, turned_off, turned_on}
use Rattle.pc_inline_stack.proofs.driver.turn.Goals as goal

pub read_item-requires-clause-numbered : goal.read_item-requires-clause-numbered
read_item-requires-clause-numbered c =
    item_numbered _ _ _ c.args.root.now c.args.state.now _ c.args.stack.now.top _ c.requires.here _
    (got_some _ _ _ (c.as_slice.ensures ∙ ap (λ (tr : Translation). tr.initializers) c.body_at-body.ensures) _
    c.in-Some.ensures.lookup.3.0 c.in-Some.ensures.lookup.1) _ c.item-numbers.ensures

pub leave-requires-clause-next : goal.leave-requires-clause-next
leave-requires-clause-next c =
    counted_popped _ _ _ c.in-Some-pop.caller c.pop.ensures.items c.in-Some-pop.is c.requires.waits

pub returns-in_err-read_item-in-Some : goal.returns-in_err-read_item-in-Some
returns-in_err-read_item-in-Some c =
    turned_off _ _ _ c.args.root.now c.args.state.now c.args.stack.now c.read_item.new.state c.read_item.new.stack _ _
    c.in_err-read_item-in-Some.ensures _ c.from_residual.ensures.1

pub returns-in_err-leave-in-Some-pop : goal.returns-in_err-leave-in-Some-pop
returns-in_err-leave-in-Some-pop c =
    left_off _ _ _ c.args.root.now c.args.state.now c.args.stack.now c.leave.new.state c.leave.new.stack _ _
    c.pop.ensures.items c.in-Some-pop.caller c.in-Some-pop.is _ refl refl refl _ _ c.in_err-leave-in-Some-pop.ensures _
    c.from_residual-in_err-leave-in-Some-pop.ensures.1

pub returns-in_ok-read_item-in-Some : goal.returns-in_ok-read_item-in-Some
returns-in_ok-read_item-in-Some c =
    turned_on _ _ _ c.args.root.now c.args.state.now c.args.stack.now c.read_item.new.state c.read_item.new.stack _
    c.in_ok-read_item-in-Some.ensures c.requires.waits

pub returns-in_ok-leave-in-Some-pop : goal.returns-in_ok-leave-in-Some-pop
returns-in_ok-leave-in-Some-pop c =
    left_on _ _ _ c.args.root.now c.args.state.now c.args.stack.now c.leave.new.state c.leave.new.stack _ _
    c.pop.ensures.items c.in-Some-pop.caller c.in-Some-pop.is _ refl refl refl _ c.in_ok-leave-in-Some-pop.ensures
    c.requires.waits

pub returns-in-None-pop : goal.returns-in-None-pop
returns-in-None-pop c =
    turned_last _ _ _ c.args.root.now c.args.state.now c.args.stack.now _ _ c.pop.ensures.items c.in-None-pop.is refl
    refl (none_wait _ (sym c.pop.new.self.ok.0 ∙ c.in-None-pop.ensures.cases.1))
    (subst (λ ls. length ls ≤ c.args.stack.now.top.next)
    (c.as_slice.ensures ∙ ap (λ (tr : Translation). tr.initializers) c.body_at-body.ensures)
    c.in-None.ensures.lookup.3) c.requires.waits
