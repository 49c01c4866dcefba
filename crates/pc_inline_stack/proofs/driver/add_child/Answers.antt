use Rattle.std.proofs.Common.{arith}
use Rattle.pc_inline_state.proofs.AddsLemmas.{adds_both, adds_weaken}
use Rattle.pc_inline_state.proofs.StateLemmas.{keeps_trans}
use Rattle.pc_inline_state.proofs.TrailLemmas.{trails_same, trails_trans}
use Rattle.pc_inline_stack.proofs.GivesLemmas.{child_added, child_unknown, known_point}
use Rattle.pc_inline_stack.proofs.driver.add_child.Goals as goal

pub returns-in_err-return_resources-clause-adds : goal.returns-in_err-return_resources-clause-adds
returns-in_err-return_resources-clause-adds c = adds_weaken _ _ _ _ _ (omega arith) c.return_resources.ensures.adds

pub returns-in_err-return_resources-clause-adds_child : goal.returns-in_err-return_resources-clause-adds_child
returns-in_err-return_resources-clause-adds_child c =
    child_unknown _ _ _ _ _ _ _ _ _ _ c.from_residual.ensures.1 c.in_err-return_resources.ensures.steps

pub add_instance-requires-clause-here : goal.add_instance-requires-clause-here
add_instance-requires-clause-here c =
    known_point _ _ _ _ _ _ _ _ _ c.in_ok-return_resources.ensures.steps c.requires.here c.requires.members

pub returns-clause-keeps : goal.returns-clause-keeps
returns-clause-keeps c = keeps_trans _ _ _ c.return_resources.ensures.keeps c.add_instance.ensures.keeps

pub returns-clause-adds : goal.returns-clause-adds
returns-clause-adds c =
    adds_both _ _ _ _ _ _ _ (omega arith) c.return_resources.ensures.adds c.add_instance.ensures.adds

pub returns-clause-trail : goal.returns-clause-trail
returns-clause-trail c =
    trails_trans _ _ _ _ _ _ c.return_resources.ensures.trail
    (trails_same _ _ _ _ c.add_instance.ensures.changes c.add_instance.ensures.resources)

pub returns-clause-adds_child : goal.returns-clause-adds_child
returns-clause-adds_child c =
    child_added _ _ _ _ c.args.state.now c.args.frame.now c.return_resources.new.state c.return_resources.new.frame _
    c.in_ok-return_resources.ensures.steps c.return_resources.ensures.keeps _ _ _ c.add_instance.ensures.steps
