use Rattle.std.proofs.Common.{◌∙◌}
use Rattle.pc_inline_stack.proofs.CallLemmas.{lent_same, lent_stays, stays_point}
use Rattle.pc_inline_stack.proofs.MoveLemmas.{underway_below, underway_point}
use Rattle.pc_inline_stack.proofs.MovesLemmas.{child_is, error_moved, falls_entered, moves_entered, moves_refused}
use Rattle.pc_inline_stack.proofs.MovesLemmas.{moves_unbegun, moves_unfed, one_counted, one_waits}
use Rattle.pc_inline_stack.proofs.driver.enter.Goals as goal

pub call_of-called-requires-clause-here : goal.call_of-called-requires-clause-here
call_of-called-requires-clause-here c = underway_point _ _ _ _ _ _ _ _ c.requires.here

pub begin_instance-requires : goal.begin_instance-requires
begin_instance-requires c = record { below = underway_below _ _ _ _ _ _ _ _ c.requires.here }

pub returns-in-Err : goal.returns-in-Err
returns-in-Err c = record {
  moves = moves_refused _ _ _ c.args.root.now c.args.state.now _ c.args.stack.now.top _ _ _ _ c.requires.item
      c.call_of-called.new.state c.in-Err.ensures.keeps c.in-Err.ensures.adds c.call_of-called.new.frame
      c.in-Err.ensures.same c.in-Err.error c.in-Err.ensures.calls _ _ c.place_of.ensures c.error_at.ensures _ _;
  falls = tt;
  waits = tt;
}

pub returns-in_err-instance : goal.returns-in_err-instance
returns-in_err-instance c =
    error_moved _ _ _ c.args.root.now c.args.state.now _ c.args.stack.now _ _ _ _ c.from_residual.ensures.1
    (moves_unbegun _ _ _ c.args.root.now c.args.state.now _ c.args.stack.now.top _ _ _ _ c.requires.item
    c.call_of-called.new.state c.in-Ok.ensures.keeps c.in-Ok.ensures.adds c.call_of-called.new.frame
    c.in-Ok.ensures.same c.in-Ok.ensures.resources c.in-Ok.ensures.stays c.in-Ok.call c.in-Ok.ensures.calls
    c.args.weights.now c.requires.weights _ c.weight_of-weight.ensures c.begin_instance.new.graph _ _
    c.in_err-instance.ensures.begins _ c.from_residual.ensures.1 _ _)

pub returns-in_err-push_caller : goal.returns-in_err-push_caller
returns-in_err-push_caller c =
    error_moved _ _ _ c.args.root.now c.args.state.now _ c.args.stack.now _ _ _ _
    c.from_residual-in_err-push_caller.ensures.1
    (moves_unfed _ _ _ c.args.root.now c.args.state.now _ c.args.stack.now.top _ _ _ _ c.requires.item
    c.call_of-called.new.state c.in-Ok.ensures.keeps c.in-Ok.ensures.adds c.call_of-called.new.frame
    c.in-Ok.ensures.same c.in-Ok.ensures.resources c.in-Ok.ensures.stays c.in-Ok.call c.in-Ok.ensures.calls
    c.args.weights.now c.requires.weights _ c.weight_of-weight.ensures c.in_ok-instance.instance
    c.begin_instance.new.graph _ c.in_ok-instance.ensures.begins c.begin_instance.ensures.grows _
    c.from_residual-in_err-push_caller.ensures.1 _ _)

pub child_types-converted-requires-clause-sound : goal.child_types-converted-requires-clause-sound
child_types-converted-requires-clause-sound c = c.requires.input.table

pub child_types-converted-requires-clause-converted : goal.child_types-converted-requires-clause-converted
child_types-converted-requires-clause-converted c =
    let at = stays_point _ _ _ _ _ _ c.in-Ok.ensures.stays (underway_point _ _ _ _ _ _ _ _ c.requires.here) in
    (_, at.1.converted)

pub returns : goal.returns
returns c =
    let waits = one_waits _ _ _ _ c.in_ok-push_caller.ensures c.replace-caller.ensures.value in
    let done = c.child_types-converted.result in
    let child = c.replace-caller.ensures.after ∙ child_is c.in-Ok.call _ _ done c.new.ensures in
    let lent = c.child_types-converted.ensures in
    let same = lent_same c.args.stack.now.top.frame c.call_of-called.new.frame c.child_types-converted.new.frame
    c.in-Ok.ensures.same lent.same in
    let stays = lent_stays _ _ _ _ _ c.call_of-called.new.frame c.child_types-converted.new.frame c.in-Ok.ensures.stays
    lent.same lent.stays in
    let at = stays_point _ _ _ _ _ _ c.in-Ok.ensures.stays (underway_point _ _ _ _ _ _ _ _ c.requires.here) in
    record {
      moves = moves_entered _ _ _ c.args.root.now c.args.state.now _ c.args.stack.now.top _ _ _ _ c.requires.item
          c.call_of-called.new.state c.in-Ok.ensures.keeps c.in-Ok.ensures.adds c.child_types-converted.new.frame
          same c.in-Ok.ensures.resources stays c.in-Ok.call c.in-Ok.ensures.calls c.args.weights.now
          c.requires.weights _ c.weight_of-weight.ensures c.in_ok-instance.instance c.begin_instance.new.graph _
          c.in_ok-instance.ensures.begins c.begin_instance.ensures.grows _ _ c.convert_for.ensures done
          (λ k. lent.child _ k at.1.converted) _ _ waits child;
      falls = falls_entered c.args.context.now.table.now c.args.context.now.modules _ c.args.root.now c.args.state.now
          _ c.args.stack.now.top c.args.stack.now.total _ _ _ c.requires.item c.call_of-called.new.state
          c.in-Ok.ensures.keeps
          c.in-Ok.ensures.adds c.child_types-converted.new.frame same c.in-Ok.call c.in_ok-instance.instance
          c.begin_instance.new.graph _ _ c.in_ok-instance.ensures.begins _ done _ _ waits child;
      waits = one_counted _ _ _ _ c.in_ok-push_caller.ensures c.replace-caller.ensures.value c.requires.next;
    }
