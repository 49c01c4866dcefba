use Rattle.pc_inline_stack.proofs.MovesLemmas.{turn_falls}
use Rattle.pc_inline_stack.proofs.TurnLemmas.{moved_none, moved_on, moves_done, moves_stop, still_underway}
use Rattle.pc_inline_stack.proofs.TurnLemmas.{still_weights}
use Rattle.pc_inline_stack.proofs.driver.turns.Goals as goal

pub moves-init : goal.moves-init
moves-init c = (
  moved_none c.args.context.now.table.now c.args.context.now.modules c.args.limit c.args.root.now c.args.state.now
      c.args.stack.now,
  c.requires.waits,
)

pub turn-requires-clause-weights : goal.turn-requires-clause-weights
turn-requires-clause-weights c =
    still_weights _ _ _ c.args.root.now c.args.state.now c.args.stack.now c.moves.state c.moves.stack
    c.moves.invariant.0 c.requires.here _ c.requires.weights

pub turn-requires-clause-here : goal.turn-requires-clause-here
turn-requires-clause-here c =
    still_underway _ _ _ c.args.root.now c.args.state.now c.args.stack.now c.moves.state c.moves.stack
    c.moves.invariant.0 c.requires.here

pub turn-requires-clause-waits : goal.turn-requires-clause-waits
turn-requires-clause-waits c = c.moves.invariant.1

pub returns-in_err-turn : goal.returns-in_err-turn
returns-in_err-turn c =
    moves_stop _ _ _ c.args.root.now c.args.state.now c.args.stack.now _ _ c.moves.invariant.0 _ _ _
    c.in_err-turn.ensures _ c.from_residual.ensures.1

pub moves-smaller : goal.moves-smaller
moves-smaller c =
    turn_falls c.args.limit c.args.root.now _ _ _ _ _ _ c.in_ok-turn.field-0 c.if-branch.true c.in_ok-turn.ensures.falls

pub moves-preserved : goal.moves-preserved
moves-preserved c = (
  moved_on _ _ _ c.args.root.now c.args.state.now c.args.stack.now _ _ c.moves.invariant.0 _ _ _ c.in_ok-turn.ensures,
  c.in_ok-turn.ensures.waits,
)

pub returns : goal.returns
returns c =
    moves_done _ _ _ c.args.root.now c.args.state.now c.args.stack.now _ _ c.moves.invariant.0 _ _
    c.in_ok-turn.field-0 c.if-branch.false c.in_ok-turn.ensures
