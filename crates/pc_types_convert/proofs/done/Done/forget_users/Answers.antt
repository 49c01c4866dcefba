use Rattle.std.proofs.Common.{◌∙◌, ap, is_some, length, None, Some, subst, sym}
use Rattle.std.proofs.lemmas.List.{append-nil}
use Rattle.pc_types_convert.specs.Plain.{Layers}
use Rattle.pc_types_convert.proofs.ForgetLemmas.{Forgetting, ahead_falls, dropped_none, dropped_users, forgetting_end}
use Rattle.pc_types_convert.proofs.ForgetLemmas.{forgetting_next, forgetting_start, none_left, same_room}
use Rattle.pc_types_convert.proofs.LayerLemmas.{are_layered, layers}
use Rattle.pc_types_convert.proofs.done.Done.forget_users.Goals as goal

pub returns-in_default-clause-forgets : goal.returns-in_default-clause-forgets
returns-in_default-clause-forgets c =
    let was = c.self.inside in
    let now = layers c.remove.new.self was.plain c.remove-2.new.self was.like was.room in
    forgetting_end c.args.n c.args.self.now now
    (forgetting_start was.own c.remove.new.self was.plain was.users c.remove-2.new.self was.like was.room c.args.n None
    c.args.self.now c.self.view_is c.remove.ensures.updates c.in_default.ensures.updates c.in_default.ensures.value)
    (are_layered c.remove.new.self was.plain c.remove-2.new.self was.like was.room)

pub returns-in_default-clause-room : goal.returns-in_default-clause-room
returns-in_default-clause-room c =
    let was = c.self.inside in
    same_room was.own c.remove.new.self was.plain was.room ∙ ap (λ (l : Layers). length l.all) c.self.view_is

pub loop-m-init : goal.loop-m-init
loop-m-init c =
    let was = c.self.inside in
    forgetting_start was.own c.remove.new.self was.plain was.users c.remove-2.new.self was.like was.room c.args.n
    (Some c.in-Some.left) c.args.self.now c.self.view_is c.remove.ensures.updates c.in-Some.ensures.updates
    c.in-Some.ensures.value

pub returns-in_err-append-clause-room : goal.returns-in_err-append-clause-room
returns-in_err-append-clause-room c =
    let l = c.loop-m in
    same_room l.self-inside.own c.remove-in-Some-pop.new.self l.self-inside.plain l.self-inside.room ∙ l.invariant.room

pub loop-m-smaller-in-Some-remove : goal.loop-m-smaller-in-Some-remove
loop-m-smaller-in-Some-remove c =
    ahead_falls c.in-Some-pop.m c.loop-m.left.items c.pop.new.self.items c.append.new.self.items
    c.loop-m.self-inside.users c.remove-then-is_some.new.self c.in-Some-remove.users c.in-Some-pop.ensures.items
    c.in_ok-append.ensures.items c.in-Some-remove.ensures.value c.in-Some-remove.ensures.entries

pub loop-m-preserved-in-Some-remove : goal.loop-m-preserved-in-Some-remove
loop-m-preserved-in-Some-remove c =
    let l = c.loop-m in
    forgetting_next c.args.n c.in-Some-pop.m c.args.self.now _ _ l.left.items c.pop.new.self.items _ _ l.invariant
    c.in-Some-pop.ensures.items c.in_ok-append.ensures.items
    (dropped_users l.self-inside.own c.remove-in-Some-pop.new.self l.self-inside.plain l.self-inside.users
    c.remove-then-is_some.new.self l.self-inside.like l.self-inside.room c.in-Some-pop.m _
    c.remove-in-Some-pop.ensures.updates c.in-Some-remove.ensures.updates c.in-Some-remove.ensures.value)

pub loop-m-preserved-in_default-remove : goal.loop-m-preserved-in_default-remove
loop-m-preserved-in_default-remove c =
    let l = c.loop-m in
    forgetting_next c.args.n c.in-Some-pop.m c.args.self.now _ _ l.left.items c.pop.new.self.items _ _ l.invariant
    c.in-Some-pop.ensures.items (sym (append-nil c.pop.new.self.items))
    (dropped_users l.self-inside.own c.remove-in-Some-pop.new.self l.self-inside.plain l.self-inside.users
    c.remove-then-is_some.new.self l.self-inside.like l.self-inside.room c.in-Some-pop.m None
    c.remove-in-Some-pop.ensures.updates c.in_default-remove.ensures.updates c.in_default-remove.ensures.value)

pub loop-m-preserved : goal.loop-m-preserved
loop-m-preserved c =
    let l = c.loop-m in
    forgetting_next c.args.n c.in-Some-pop.m c.args.self.now _ _ l.left.items c.pop.new.self.items _ _ l.invariant
    c.in-Some-pop.ensures.items (sym (append-nil c.pop.new.self.items))
    (dropped_none l.self-inside.own c.remove-in-Some-pop.new.self l.self-inside.plain l.self-inside.users
    l.self-inside.like l.self-inside.room c.in-Some-pop.m c.remove-in-Some-pop.ensures.updates
    (sym (ap is_some c.remove-in-Some-pop.ensures.value) ∙ sym c.is_some.ensures ∙ c.if-is_some.false))

pub returns-clause-forgets : goal.returns-clause-forgets
returns-clause-forgets c =
    let l = c.loop-m in
    let now = l.self-inside in
    let none = none_left l.left.items (sym l.left.ok.0 ∙ c.in_default-pop.ensures.cases.0) in
    forgetting_end c.args.n c.args.self.now (layers now.own now.plain now.users now.like now.room)
    (subst (Forgetting c.args.n c.args.self.now (layers now.own now.plain now.users now.like now.room)) none
    l.invariant)
    (are_layered now.own now.plain now.users now.like now.room)
