use Rattle.pc_inline_canon.proofs.ConvertedLemmas.{lower_keeps}
use Rattle.pc_inline_canon.proofs.PassedLemmas.{passed_lacking, passed_unfed}
use Rattle.pc_inline_builtins.proofs.ContextLemmas.{slot_adds, slot_lacks, slot_misses, slot_steps}
use Rattle.pc_inline_builtins.proofs.context.step_slot.Goals as goal

pub returns-in_err-core_type-clause-steps : goal.returns-in_err-core_type-clause-steps
returns-in_err-core_type-clause-steps c =
    slot_lacks _ _ _ _ _ _ _ _ _ _ _ c.from_residual.ensures.1 c.in_err-core_type.ensures.err

pub returns-in_default-clause-steps : goal.returns-in_default-clause-steps
returns-in_default-clause-steps c =
    slot_misses _ _ _ _ _ _ _ _ c.in_ok-core_type.ensures.converts _ c.in_ok-core_type.ensures.is _
    c.slot_intrinsic.ensures c.in_default.is

pub returns-in_err-id-clause-steps : goal.returns-in_err-id-clause-steps
returns-in_err-id-clause-steps c =
    passed_lacking _ _ _ _ _ _ _ _ _ c.from_residual-in_err-id.ensures.1 c.in_err-id.ensures.lacks

pub returns-in_err-push-clause-steps : goal.returns-in_err-push-clause-steps
returns-in_err-push-clause-steps c = passed_unfed _ _ _ _ _ _ _ _ c.from_residual-in_err-push.ensures.1

pub returns-clause-steps : goal.returns-clause-steps
returns-clause-steps c =
    slot_steps _ _ _ _ _ _ _ _ c.in_ok-core_type.ensures.converts _ c.in_ok-core_type.ensures.is _
    c.slot_intrinsic.ensures c.in-Some.intrinsic c.in-Some.is c.add_intrinsic.new.state c.in_ok-id.id
    (c.in_ok-id.ensures.added _ _) _ (λ i. record c.args.frame.now { core_funcs = c.in_ok-push.ensures.ok i }) tt

pub returns-in_err-id-clause-keeps : goal.returns-in_err-id-clause-keeps
returns-in_err-id-clause-keeps c =
    lower_keeps _ _ _ _ _ _ (c.signature.ensures.converts c.args.frame.now.converted) c.add_intrinsic.ensures.keeps

pub returns-in_err-push-clause-keeps : goal.returns-in_err-push-clause-keeps
returns-in_err-push-clause-keeps c =
    lower_keeps _ _ _ _ _ _ (c.signature.ensures.converts c.args.frame.now.converted) c.add_intrinsic.ensures.keeps

pub returns-clause-keeps : goal.returns-clause-keeps
returns-clause-keeps c =
    lower_keeps _ _ _ _ _ _ (c.signature.ensures.converts c.args.frame.now.converted) c.add_intrinsic.ensures.keeps

pub returns-in_err-id-clause-adds : goal.returns-in_err-id-clause-adds
returns-in_err-id-clause-adds c = slot_adds _ c.signature.ensures.adds c.add_intrinsic.ensures.adds

pub returns-in_err-push-clause-adds : goal.returns-in_err-push-clause-adds
returns-in_err-push-clause-adds c = slot_adds _ c.signature.ensures.adds c.add_intrinsic.ensures.adds

pub returns-clause-adds : goal.returns-clause-adds
returns-clause-adds c = slot_adds _ c.signature.ensures.adds c.add_intrinsic.ensures.adds
