use Rattle.pc_inline_state.proofs.StateLemmas.{keeps_trans}
use Rattle.pc_inline_canon.proofs.FrameLemmas.{converted_point}
use Rattle.pc_inline_canon.proofs.PassedLemmas.{passed_lacking, passed_unfed}
use Rattle.pc_inline_builtins.proofs.MadeLemmas.{both_shaped, declare_ready, first_few, first_keeps, first_lacks, made_few}
use Rattle.pc_inline_builtins.proofs.MadeLemmas.{made_steps, second_few, second_lacks, signature_lacks, then_keeps}
use Rattle.pc_inline_builtins.proofs.steps.step_made.Goals as goal

pub returns-in_err-core_type-clause-steps : goal.returns-in_err-core_type-clause-steps
returns-in_err-core_type-clause-steps c i row =
    signature_lacks _ _ _ i row _ _ _ _ _ _ c.from_residual.ensures.1 c.in_err-core_type.ensures.err

pub returns-in_err-first-clause-steps : goal.returns-in_err-first-clause-steps
returns-in_err-first-clause-steps c i row =
    first_lacks _ _ _ c.args.state.now c.args.frame.now c.signature.new.state c.in_ok-core_type.ensures.converts
    c.in_ok-core_type.core_type c.in_ok-core_type.ensures.is c.first_part.new.state _ c.first_part.ensures.converts i row
    _ _ c.from_residual-in_err-first.ensures.1 c.in_err-first.ensures.yields

pub second_part-requires-clause-here : goal.second_part-requires-clause-here
second_part-requires-clause-here c = (
  c.requires.here.0,
  converted_point _ _ c.signature.new.state c.args.frame.now c.first_part.new.state _ c.first_part.ensures.converts _
      (converted_point _ _ c.args.state.now c.args.frame.now c.signature.new.state _
      (c.in_ok-core_type.ensures.converts c.args.frame.now.converted) _ c.requires.here.1),
)

pub returns-in_err-second-clause-steps : goal.returns-in_err-second-clause-steps
returns-in_err-second-clause-steps c i row =
    second_lacks _ _ _ c.args.state.now c.args.frame.now c.signature.new.state c.in_ok-core_type.ensures.converts
    c.in_ok-core_type.core_type c.in_ok-core_type.ensures.is c.first_part.new.state _ c.first_part.ensures.converts
    c.in_ok-first.first c.in_ok-first.ensures.yields c.second_part.new.state c.second_part.ensures.prepares i row _ _
    c.from_residual-in_err-second.ensures.1 c.in_err-second.ensures.yields

pub declare-requires-clause-shaped : goal.declare-requires-clause-shaped
declare-requires-clause-shaped c =
    both_shaped c.args.builtin _ _ _ c.requires.shaped c.together-parts.ensures c.in_ok-first.ensures.shape
    c.in_ok-second.ensures.shape

pub declare-requires-clause-held : goal.declare-requires-clause-held
declare-requires-clause-held c =
    (declare_ready c.args.context.now.table.now c.args.context.now.modules c.args.builtin c.args.state.now
    c.args.frame.now c.signature.new.state c.in_ok-core_type.ensures.converts c.in_ok-core_type.core_type
    c.in_ok-core_type.ensures.is c.first_part.new.state _ c.first_part.ensures.converts c.in_ok-first.first
    c.in_ok-first.ensures.yields c.second_part.new.state c.second_part.ensures.prepares c.in_ok-second.second
    c.in_ok-second.ensures.yields _ c.together-parts.ensures c.requires.here).1

pub returns-in_err-id-clause-steps : goal.returns-in_err-id-clause-steps
returns-in_err-id-clause-steps c i row =
    passed_lacking _ _ _ _ _ _ _ _ _ c.from_residual-in_err-id.ensures.1 c.in_err-id.ensures.err

pub returns-in_err-push-clause-steps : goal.returns-in_err-push-clause-steps
returns-in_err-push-clause-steps c i row = passed_unfed _ _ _ _ _ _ _ _ c.from_residual-in_err-push.ensures.1

pub returns-clause-steps : goal.returns-clause-steps
returns-clause-steps c i row =
    made_steps _ _ c.args.builtin c.args.state.now c.args.frame.now c.signature.new.state
    c.in_ok-core_type.ensures.converts c.in_ok-core_type.core_type c.in_ok-core_type.ensures.is c.first_part.new.state _
    c.first_part.ensures.converts c.in_ok-first.first c.in_ok-first.ensures.yields c.second_part.new.state
    c.second_part.ensures.prepares c.in_ok-second.second c.in_ok-second.ensures.yields _ c.together-parts.ensures i row
    c.declare.new.state c.in_ok-id.id c.in_ok-id.ensures.declares _
    (λ j. record c.args.frame.now {
      core_funcs = c.in_ok-push.ensures.ok j;
      converted = c.first_part.new.converted;
    })
    tt

pub returns-in_err-first-clause-keeps : goal.returns-in_err-first-clause-keeps
returns-in_err-first-clause-keeps c =
    first_keeps _ _ _ _ _ _ (c.in_ok-core_type.ensures.converts _) c.first_part.ensures.converts

pub returns-in_err-second-clause-keeps : goal.returns-in_err-second-clause-keeps
returns-in_err-second-clause-keeps c =
    then_keeps _ _ _ _ _ _ (c.in_ok-core_type.ensures.converts _) c.first_part.ensures.converts _
    c.second_part.ensures.prepares.keeps

pub returns-in_err-id-clause-keeps : goal.returns-in_err-id-clause-keeps
returns-in_err-id-clause-keeps c =
    keeps_trans _ _ _
    (then_keeps _ _ _ _ _ _ (c.in_ok-core_type.ensures.converts _) c.first_part.ensures.converts _
    c.second_part.ensures.prepares.keeps) c.declare.ensures.keeps

pub returns-in_err-push-clause-keeps : goal.returns-in_err-push-clause-keeps
returns-in_err-push-clause-keeps c =
    keeps_trans _ _ _
    (then_keeps _ _ _ _ _ _ (c.in_ok-core_type.ensures.converts _) c.first_part.ensures.converts _
    c.second_part.ensures.prepares.keeps) c.declare.ensures.keeps

pub returns-clause-keeps : goal.returns-clause-keeps
returns-clause-keeps c =
    keeps_trans _ _ _
    (then_keeps _ _ _ _ _ _ (c.in_ok-core_type.ensures.converts _) c.first_part.ensures.converts _
    c.second_part.ensures.prepares.keeps) c.declare.ensures.keeps

pub returns-in_err-first-clause-adds : goal.returns-in_err-first-clause-adds
returns-in_err-first-clause-adds c = first_few _ _ _ _ _ c.signature.ensures.adds c.first_part.ensures.adds

pub returns-in_err-second-clause-adds : goal.returns-in_err-second-clause-adds
returns-in_err-second-clause-adds c =
    second_few _ _ _ _ _ c.signature.ensures.adds c.first_part.ensures.adds _ c.second_part.ensures.adds

pub returns-in_err-id-clause-adds : goal.returns-in_err-id-clause-adds
returns-in_err-id-clause-adds c =
    made_few _ _ _ _ _ c.signature.ensures.adds c.first_part.ensures.adds _ _ c.second_part.ensures.adds
    c.declare.ensures.adds

pub returns-in_err-push-clause-adds : goal.returns-in_err-push-clause-adds
returns-in_err-push-clause-adds c =
    made_few _ _ _ _ _ c.signature.ensures.adds c.first_part.ensures.adds _ _ c.second_part.ensures.adds
    c.declare.ensures.adds

pub returns-clause-adds : goal.returns-clause-adds
returns-clause-adds c =
    made_few _ _ _ _ _ c.signature.ensures.adds c.first_part.ensures.adds _ _ c.second_part.ensures.adds
    c.declare.ensures.adds
