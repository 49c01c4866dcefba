use Rattle.pc_inline_stack.proofs.MoveLemmas.{underway_point}
use Rattle.pc_inline_stack.proofs.MovesLemmas.{falls_on, moves_on, moves_stuck}
use Rattle.pc_inline_stack.proofs.SoundLemmas.{sound_item}
use Rattle.pc_inline_stack.proofs.driver.advance.Goals as goal

pub step-read-requires-clause-here : goal.step-read-requires-clause-here
step-read-requires-clause-here c = underway_point _ _ _ _ _ _ _ _ c.requires.here

pub step-read-requires-clause-sound : goal.step-read-requires-clause-sound
step-read-requires-clause-sound c =
    sound_item _ _ _ c.args.root.now c.requires.sound _ _ _ _ c.requires.here _ c.requires.item

pub returns-in-Err : goal.returns-in-Err
returns-in-Err c = record {
  moves = moves_stuck _ _ _ c.args.root.now c.args.state.now _ c.args.stack.now.top _ c.args.item.now c.requires.item
      c.requires.plain c.step-read.new.state c.step-read.new.frame c.in-Err.ensures.keeps c.in-Err.ensures.adds
      c.in-Err.ensures.same c.in-Err.ensures.trail c.in-Err.error c.in-Err.ensures.steps _ _ c.place_of.ensures
      c.error_at.ensures _ _;
  falls = tt;
  waits = tt;
}

pub returns : goal.returns
returns c = record {
  moves = moves_on _ _ _ c.args.root.now c.args.state.now _ c.args.stack.now.top _ c.args.item.now c.requires.item
      c.requires.plain c.step-read.new.state c.step-read.new.frame c.in_default.ensures.keeps
      c.in_default.ensures.adds c.in_default.ensures.same c.in_default.ensures.trail _ _ c.in_default.ensures.steps;
  falls = falls_on c.args.context.now.table.now c.args.context.now.modules _ c.args.root.now c.args.state.now _
      c.args.stack.now.top c.args.stack.now.total c.args.item.now c.requires.item c.requires.plain c.step-read.new.state
      c.step-read.new.frame c.in_default.ensures.keeps c.in_default.ensures.adds c.in_default.ensures.same
      c.in_default.ensures.trail;
  waits = λ each. each;
}
