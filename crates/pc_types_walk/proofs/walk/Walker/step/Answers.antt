use Rattle.std.proofs.Common.{◌∷◌, ◌∙◌, [], ap, reverse}
use Rattle.std.proofs.lemmas.List.{reverse-append}
use Rattle.pc_types_walk.specs.declared.walk.Entered.{Entered}
use Rattle.pc_types_walk.specs.Steps.{has}
use Rattle.pc_types_walk.proofs.StepLemmas.{leave_step, next_is, next_step, none_next}
use Rattle.pc_types_walk.proofs.walk.Walker.step.Goals as goal

pub returns-in_ok-pass-in-Some-clause-goes : goal.returns-in_ok-pass-in-Some-clause-goes
returns-in_ok-pass-in-Some-clause-goes c all goes =
    let self = c.args.self.now in
    let top = c.args.top in
    let next = next_is c.args.leads.now top c.next_of.result c.in-Some.next c.next_of.ensures c.in-Some.is in
    let onward : Entered = record { entry = top.entry; place = top.place; next = c.in-Some.next.1 } in
    (next_step c.args.table.now c.args.leads.now all c.requires.leads top (reverse self.stack.items) c.in-Some.next.0
    (record self { stack = c.push.new.self }) c.pass.new.self
    (ap reverse c.in_ok-push-in-Some.ensures.items ∙ reverse-append self.stack.items (onward ∷ [])
    ∙ (λ k. record { entry = top.entry; place = top.place; next = next.1 k } ∷ reverse self.stack.items))
    next.0 goes c.in_ok-pass-in-Some.ensures).0

pub returns-in_ok-pass-in-Some-clause-falls : goal.returns-in_ok-pass-in-Some-clause-falls
returns-in_ok-pass-in-Some-clause-falls c all goes =
    let self = c.args.self.now in
    let top = c.args.top in
    let next = next_is c.args.leads.now top c.next_of.result c.in-Some.next c.next_of.ensures c.in-Some.is in
    let onward : Entered = record { entry = top.entry; place = top.place; next = c.in-Some.next.1 } in
    (next_step c.args.table.now c.args.leads.now all c.requires.leads top (reverse self.stack.items) c.in-Some.next.0
    (record self { stack = c.push.new.self }) c.pass.new.self
    (ap reverse c.in_ok-push-in-Some.ensures.items ∙ reverse-append self.stack.items (onward ∷ [])
    ∙ (λ k. record { entry = top.entry; place = top.place; next = next.1 k } ∷ reverse self.stack.items))
    next.0 goes c.in_ok-pass-in-Some.ensures).1

pub returns-in-None-clause-goes : goal.returns-in-None-clause-goes
returns-in-None-clause-goes c all goes =
    let self = c.args.self.now in
    (leave_step c.args.table.now c.args.leads.now all (has self.met) (has self.visited) c.args.top
    (reverse self.stack.items) self.walk
    (none_next c.args.leads.now c.args.top c.next_of.result c.next_of.ensures c.in-None.is) goes).0

pub returns-in-None-clause-falls : goal.returns-in-None-clause-falls
returns-in-None-clause-falls c all goes =
    let self = c.args.self.now in
    (leave_step c.args.table.now c.args.leads.now all (has self.met) (has self.visited) c.args.top
    (reverse self.stack.items) self.walk
    (none_next c.args.leads.now c.args.top c.next_of.result c.next_of.ensures c.in-None.is) goes).1
