use Rattle.std.proofs.Common.{refl, sym, ap, subst, ◌∙◌, true, false, Ok}
use Rattle.pc_inline_exports.specs.Building.{Finds}
use Rattle.pc_inline_exports.proofs.GoesLemmas.{advanced_err, advanced_less, advanced_ok, goes_err, goes_ok, left_err}
use Rattle.pc_inline_exports.proofs.GoesLemmas.{left_less, left_ok, none_left, none_popped, turned_off, turned_on}
use Rattle.pc_inline_exports.proofs.GoesLemmas.{working_same, working_sound}
use Rattle.pc_inline_exports.proofs.GoesLemmas.{left_absent, left_next}
use Rattle.pc_inline_exports.proofs.TurnLemmas.{found_absent, found_next}
use Rattle.pc_inline_exports.proofs.TurnLemmas.{fails_part, part_reachable, top_kind, top_parts, working_path}
use Rattle.pc_inline_exports.proofs.build.turn.Goals as goal

pub part_at-requires-clause-sound : goal.part_at-requires-clause-sound
part_at-requires-clause-sound c = working_sound _ _ c.args.state.now c.args.stack.now c.requires.working

pub part_at-requires-clause-has : goal.part_at-requires-clause-has
part_at-requires-clause-has c =
    let w = c.requires.working in top_parts _ _ w.0 w.1 c.args.state.now c.args.stack.now w.2

pub returns-in_err-part-clause-goes : goal.returns-in_err-part-clause-goes
returns-in_err-part-clause-goes c = λ old d working.
    goes_err _ _ old d c.part_at.new.state c.args.stack.now _
    (fails_part _ _ old d c.args.state.now c.part_at.new.state c.args.stack.now working c.part_at.ensures.adds _
    (subst (Finds _ _ c.args.state.now c.args.stack.now.top.instance c.args.stack.now.top.next c.part_at.new.state)
    c.in_err-part.was c.part_at.ensures.finds)) _ c.from_residual.ensures.0 c.from_residual.ensures.1

pub advance-requires-clause-is : goal.advance-requires-clause-is
advance-requires-clause-is c =
    let w = c.requires.working in
    part_reachable _ _ w.0 w.1 c.args.state.now c.part_at.new.state c.args.stack.now w.2 c.part_at.ensures.adds
    c.in_ok-part.ensures.stands c.in-Some.part
    (subst (Finds _ _ c.args.state.now c.args.stack.now.top.instance c.args.stack.now.top.next
    c.part_at.new.state) (c.in_ok-part.was ∙ ap Ok c.in-Some.is) c.part_at.ensures.finds)

pub advance-requires-clause-absent : goal.advance-requires-clause-absent
advance-requires-clause-absent c =
    let w = c.requires.working in
    found_absent c.args.context.now.table.now c.args.context.now.modules w.0 w.1 c.args.state.now c.part_at.new.state
    c.args.stack.now w.2 c.part_at.ensures.adds c.in_ok-part.ensures.stands c.in-Some.part
    (subst (Finds _ _ c.args.state.now c.args.stack.now.top.instance c.args.stack.now.top.next
    c.part_at.new.state) (c.in_ok-part.was ∙ ap Ok c.in-Some.is) c.part_at.ensures.finds)

pub advance-requires-clause-next : goal.advance-requires-clause-next
advance-requires-clause-next c =
    let w = c.requires.working in
    found_next c.args.context.now.table.now c.args.context.now.modules w.0 w.1 c.args.state.now c.part_at.new.state
    c.args.stack.now w.2 c.part_at.ensures.adds c.in_ok-part.ensures.stands c.in-Some.part
    (subst (Finds _ _ c.args.state.now c.args.stack.now.top.instance c.args.stack.now.top.next
    c.part_at.new.state) (c.in_ok-part.was ∙ ap Ok c.in-Some.is) c.part_at.ensures.finds)

pub returns-in_err-advance-in-Some-clause-goes : goal.returns-in_err-advance-in-Some-clause-goes
returns-in_err-advance-in-Some-clause-goes c = λ old d working.
    goes_err _ _ old d c.advance.new.state c.advance.new.stack _
    (advanced_err _ _ old d c.args.state.now c.part_at.new.state c.args.stack.now working c.part_at.ensures.adds
    c.in_ok-part.ensures.stands c.in-Some.part
    (subst (Finds _ _ c.args.state.now c.args.stack.now.top.instance c.args.stack.now.top.next
    c.part_at.new.state) (c.in_ok-part.was ∙ ap Ok c.in-Some.is) c.part_at.ensures.finds) c.advance.new.state
    c.advance.new.stack _ c.in_err-advance-in-Some.ensures) _ c.from_residual-in_err-advance-in-Some.ensures.0
    c.from_residual-in_err-advance-in-Some.ensures.1

pub returns-in_ok-advance-in-Some-clause-goes : goal.returns-in_ok-advance-in-Some-clause-goes
returns-in_ok-advance-in-Some-clause-goes c = λ old d working.
    goes_ok _ _ true old d c.advance.new.state c.advance.new.stack
    (advanced_ok _ _ old d c.args.state.now c.part_at.new.state c.args.stack.now working c.part_at.ensures.adds
    c.in_ok-part.ensures.stands c.in-Some.part
    (subst (Finds _ _ c.args.state.now c.args.stack.now.top.instance c.args.stack.now.top.next
    c.part_at.new.state) (c.in_ok-part.was ∙ ap Ok c.in-Some.is) c.part_at.ensures.finds) c.advance.new.state
    c.advance.new.stack c.in_ok-advance-in-Some.ensures)

pub returns-in_ok-advance-in-Some-clause-turned : goal.returns-in_ok-advance-in-Some-clause-turned
returns-in_ok-advance-in-Some-clause-turned c =
    turned_on _ _ c.args.state.now c.advance.new.state c.args.stack.now c.advance.new.stack
    (advanced_less c.args.context.now.table.now c.args.context.now.modules c.part_at.new.state c.advance.new.state
    c.args.stack.now c.advance.new.stack c.in-Some.part c.in_ok-advance-in-Some.ensures)

pub leave-requires-clause-is : goal.leave-requires-clause-is
leave-requires-clause-is c =
    let w = c.requires.working in
    top_kind c.args.context.now.table.now c.args.context.now.modules w.0 w.1 c.args.state.now c.args.stack.now w.2

pub leave-requires-clause-absent : goal.leave-requires-clause-absent
leave-requires-clause-absent c =
    let w = c.requires.working in
    left_absent c.args.context.now.table.now c.args.context.now.modules w.0 w.1 c.args.state.now c.part_at.new.state
    c.args.stack.now w.2 c.part_at.ensures.adds c.in_ok-part.ensures.stands
    (subst (Finds _ _ c.args.state.now c.args.stack.now.top.instance c.args.stack.now.top.next
    c.part_at.new.state) (c.in_ok-part.was ∙ ap Ok c.in-None.is) c.part_at.ensures.finds)
    c.pop.new.self c.in-Some-pop.caller _ c.pop.ensures.items c.in-Some-pop.is

pub leave-requires-clause-next : goal.leave-requires-clause-next
leave-requires-clause-next c =
    let w = c.requires.working in
    left_next c.args.context.now.table.now c.args.context.now.modules w.0 w.1 c.args.state.now c.part_at.new.state
    c.args.stack.now w.2 c.part_at.ensures.adds c.in_ok-part.ensures.stands
    (subst (Finds _ _ c.args.state.now c.args.stack.now.top.instance c.args.stack.now.top.next
    c.part_at.new.state) (c.in_ok-part.was ∙ ap Ok c.in-None.is) c.part_at.ensures.finds)
    c.pop.new.self c.in-Some-pop.caller _ c.pop.ensures.items c.in-Some-pop.is

pub returns-in_err-leave-in-Some-pop-clause-goes : goal.returns-in_err-leave-in-Some-pop-clause-goes
returns-in_err-leave-in-Some-pop-clause-goes c = λ old d working.
    goes_err _ _ old d c.leave.new.state c.leave.new.stack _
    (left_err _ _ old d c.args.state.now c.part_at.new.state c.args.stack.now working c.part_at.ensures.adds
    c.in_ok-part.ensures.stands
    (subst (Finds _ _ c.args.state.now c.args.stack.now.top.instance c.args.stack.now.top.next
    c.part_at.new.state) (c.in_ok-part.was ∙ ap Ok c.in-None.is) c.part_at.ensures.finds) c.pop.new.self
    c.in-Some-pop.caller _ c.pop.ensures.items c.in-Some-pop.is c.leave.new.state c.leave.new.stack _
    c.in_err-leave-in-Some-pop.ensures) _ c.from_residual-in_err-leave-in-Some-pop.ensures.0
    c.from_residual-in_err-leave-in-Some-pop.ensures.1

pub returns-in_ok-leave-in-Some-pop-clause-goes : goal.returns-in_ok-leave-in-Some-pop-clause-goes
returns-in_ok-leave-in-Some-pop-clause-goes c = λ old d working.
    goes_ok _ _ true old d c.leave.new.state c.leave.new.stack
    (left_ok _ _ old d c.args.state.now c.part_at.new.state c.args.stack.now working c.part_at.ensures.adds
    c.in_ok-part.ensures.stands
    (subst (Finds _ _ c.args.state.now c.args.stack.now.top.instance c.args.stack.now.top.next
    c.part_at.new.state) (c.in_ok-part.was ∙ ap Ok c.in-None.is) c.part_at.ensures.finds) c.pop.new.self
    c.in-Some-pop.caller _ c.pop.ensures.items c.in-Some-pop.is c.leave.new.state c.leave.new.stack
    c.in_ok-leave-in-Some-pop.ensures)

pub returns-in_ok-leave-in-Some-pop-clause-turned : goal.returns-in_ok-leave-in-Some-pop-clause-turned
returns-in_ok-leave-in-Some-pop-clause-turned c =
    turned_on _ _ c.args.state.now c.leave.new.state c.args.stack.now c.leave.new.stack
    (left_less c.args.context.now.table.now c.args.context.now.modules c.part_at.new.state c.leave.new.state
    c.args.stack.now c.leave.new.stack c.pop.new.self c.in-Some-pop.caller _ c.pop.ensures.items c.in-Some-pop.is
    c.in_ok-leave-in-Some-pop.ensures)

pub returns-in-None-pop-clause-goes : goal.returns-in-None-pop-clause-goes
returns-in-None-pop-clause-goes c = λ old d working.
    goes_ok _ _ false old d c.part_at.new.state _
    (working_same _ _ old d c.part_at.new.state c.args.stack.now _
    (sym (none_popped _ _ _ c.pop.ensures.items c.in-None-pop.is)) refl refl
    (working_path _ _ old d c.args.state.now c.part_at.new.state c.args.stack.now c.part_at.ensures.adds
    c.in_ok-part.ensures.stands working))

pub returns-in-None-pop-clause-turned : goal.returns-in-None-pop-clause-turned
returns-in-None-pop-clause-turned c =
    turned_off _ _ c.args.state.now c.part_at.new.state c.args.stack.now _
    (none_popped _ _ _ c.pop.ensures.items c.in-None-pop.is
    ∙ none_left _ (sym c.pop.new.self.ok.0 ∙ c.in-None-pop.ensures.cases.1)) refl c.part_at.ensures.adds
    c.in_ok-part.ensures.stands
    (subst (Finds _ _ c.args.state.now c.args.stack.now.top.instance c.args.stack.now.top.next
    c.part_at.new.state) (c.in_ok-part.was ∙ ap Ok c.in-None.is) c.part_at.ensures.finds)
