use Rattle.std.proofs.Common.{arith}
use Rattle.pc_inline_state.proofs.AddsLemmas.{adds_trans, adds_weaken}
use Rattle.pc_inline_state.proofs.StateLemmas.{keeps_trans}
use Rattle.pc_inline_stack.proofs.EndLemmas.{aside_adds, aside_keeps, back_adds, back_crowded, back_given, back_here}
use Rattle.pc_inline_stack.proofs.EndLemmas.{back_keeps, back_members, back_starved, back_trails, on_ok, return_point}
use Rattle.pc_inline_stack.proofs.EndLemmas.{return_room}
use Rattle.pc_inline_stack.proofs.driver.end_child.Goals as goal

pub export_members-requires-clause-here : goal.export_members-requires-clause-here
export_members-requires-clause-here c = return_point _ _ _ _ _ c.requires.returns

pub returns-in_err-members-clause-adds : goal.returns-in_err-members-clause-adds
returns-in_err-members-clause-adds c = adds_weaken _ _ _ _ _ (omega arith) c.export_members.ensures.takes.adds

pub returns-in_err-members-clause-gives : goal.returns-in_err-members-clause-gives
returns-in_err-members-clause-gives c =
    back_crowded _ _ _ _ _ _ _ _ _ _ _ c.from_residual.ensures.1 c.in_err-members.ensures.lacks

pub returns-in_err-undo-clause-keeps : goal.returns-in_err-undo-clause-keeps
returns-in_err-undo-clause-keeps c =
    aside_keeps c.args.context.now.table.now _ c.export_members.new.state _ _ c.undo.ensures.rest
    c.export_members.ensures.takes.keeps

pub returns-in_err-undo-clause-adds : goal.returns-in_err-undo-clause-adds
returns-in_err-undo-clause-adds c =
    aside_adds c.args.context.now.table.now _ c.export_members.new.state _ _ c.undo.ensures.rest _ _
    c.export_members.ensures.takes.adds

pub returns-in_err-undo-clause-gives : goal.returns-in_err-undo-clause-gives
returns-in_err-undo-clause-gives c = back_starved _ _ _ _ _ _ _ _ _ _ c.from_residual-in_err-undo.ensures.1

pub take_back-requires : goal.take_back-requires
take_back-requires c =
    record { room = return_room _ _ _ _ _ _ _ c.in_ok-members.ensures.takes.stands c.requires.returns }

pub add_child-requires-clause-here : goal.add_child-requires-clause-here
add_child-requires-clause-here c =
    back_here _ _ c.args.exports.now c.args.ty c.args.state.now c.args.child.now c.args.frame.now
    c.export_members.new.state c.export_members.new.frame c.in_ok-members.ensures.takes.keeps
    c.in_ok-members.ensures.takes.resources
    c.in_ok-members.ensures.takes.frame c.in_ok-members.ensures.takes.stands _ c.as_slice.ensures _
    c.in_ok-undo.ensures.known
    c.in_ok-undo.ensures.rest _ c.convert_for.ensures c.in_ok-members.members c.in_ok-members.ensures.members
    _ c.take_back.ensures.same (c.take_back.ensures.converted _) c.requires.input.table c.requires.returns

pub add_child-requires-clause-members : goal.add_child-requires-clause-members
add_child-requires-clause-members c =
    back_members _ _ c.args.exports.now c.args.ty c.args.state.now c.args.child.now c.args.frame.now
    c.export_members.new.state c.export_members.new.frame c.in_ok-members.ensures.takes.keeps
    c.in_ok-members.ensures.takes.resources
    c.in_ok-members.ensures.takes.frame c.in_ok-members.ensures.takes.stands _ c.as_slice.ensures _
    c.in_ok-undo.ensures.known
    c.in_ok-undo.ensures.rest _ c.convert_for.ensures c.in_ok-members.members c.in_ok-members.ensures.members
    c.requires.returns

pub returns-clause-keeps : goal.returns-clause-keeps
returns-clause-keeps c =
    keeps_trans _ _ _ (back_keeps c.args.context.now.table.now c.args.context.now.modules c.args.exports.now c.args.ty
    c.args.state.now c.args.child.now c.args.frame.now c.export_members.new.state c.export_members.new.frame
    c.in_ok-members.ensures.takes.keeps c.in_ok-members.ensures.takes.resources c.in_ok-members.ensures.takes.frame
    c.in_ok-members.ensures.takes.stands _ c.as_slice.ensures _ c.in_ok-undo.ensures.known c.in_ok-undo.ensures.rest _
    c.convert_for.ensures) c.add_child.ensures.keeps

pub returns-clause-adds : goal.returns-clause-adds
returns-clause-adds c =
    adds_trans _ _ _ _ _ _ (back_adds c.args.context.now.table.now c.args.context.now.modules c.args.exports.now
    c.args.ty c.args.state.now c.args.child.now c.args.frame.now c.export_members.new.state
    c.export_members.new.frame c.in_ok-members.ensures.takes.keeps c.in_ok-members.ensures.takes.resources
    c.in_ok-members.ensures.takes.frame c.in_ok-members.ensures.takes.stands _ c.as_slice.ensures _
    c.in_ok-undo.ensures.known
    c.in_ok-undo.ensures.rest _ c.convert_for.ensures _ c.in_ok-members.ensures.takes.adds) c.add_child.ensures.adds

pub returns-clause-trail : goal.returns-clause-trail
returns-clause-trail c =
    on_ok _ (back_trails c.args.context.now.table.now c.args.context.now.modules c.args.exports.now c.args.ty
    c.args.state.now c.args.child.now c.args.frame.now c.export_members.new.state c.export_members.new.frame
    c.in_ok-members.ensures.takes.keeps c.in_ok-members.ensures.takes.resources c.in_ok-members.ensures.takes.frame
    c.in_ok-members.ensures.takes.stands _ c.as_slice.ensures _ c.in_ok-undo.ensures.known c.in_ok-undo.ensures.rest _
    c.convert_for.ensures _ c.take_back.ensures.same _ _ c.add_child.ensures.trail)

pub returns-clause-gives : goal.returns-clause-gives
returns-clause-gives c =
    back_given _ _ c.args.exports.now c.args.ty c.args.state.now c.args.child.now c.args.frame.now
    c.export_members.new.state c.export_members.new.frame c.in_ok-members.ensures.takes.keeps
    c.in_ok-members.ensures.takes.resources
    c.in_ok-members.ensures.takes.frame c.in_ok-members.ensures.takes.stands _ c.as_slice.ensures _
    c.in_ok-undo.ensures.known
    c.in_ok-undo.ensures.rest _ c.convert_for.ensures c.in_ok-members.members c.in_ok-members.ensures.members
    _ c.take_back.ensures.same (c.take_back.ensures.converted _) c.requires.input.table _ _ _
    c.add_child.ensures.adds_child
