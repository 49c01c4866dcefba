use Rattle.std.proofs.Common.{sym, ◌∙◌}
use Rattle.pc_inline_stack.proofs.CallLemmas.{call_crowded, call_lacks, call_missing, call_mistyped, call_other}
use Rattle.pc_inline_stack.proofs.CallLemmas.{call_ready}
use Rattle.pc_inline_stack.proofs.CallLemmas.{call_untyped, stays_so}
use Rattle.pc_inline_stack.proofs.driver.call_of.Goals as goal

pub returns-then-not-are_typed-clause-calls : goal.returns-then-not-are_typed-clause-calls
returns-then-not-are_typed-clause-calls c =
    call_mistyped _ _ c.args.state.now c.args.frame.now _ c.args.args.now _
    (sym c.are_typed.ensures ∙ c.if-not-are_typed.true)

pub returns-then-not-is_instance_type-clause-calls : goal.returns-then-not-is_instance_type-clause-calls
returns-then-not-is_instance_type-clause-calls c =
    call_untyped _ _ c.args.state.now c.args.frame.now _ c.args.args.now _
    (sym c.are_typed.ensures ∙ c.if-not-are_typed.false)
    (sym c.is_instance_type.ensures ∙ c.if-not-is_instance_type.true)

pub returns-in_default-clause-calls : goal.returns-in_default-clause-calls
returns-in_default-clause-calls c =
    call_missing _ _ c.args.state.now c.args.frame.now _ c.args.args.now _
    (sym c.are_typed.ensures ∙ c.if-not-are_typed.false)
    (sym c.is_instance_type.ensures ∙ c.if-not-is_instance_type.false) (sym c.item.ensures ∙ c.in_default.is)

pub returns-then-not-are_there-clause-calls : goal.returns-then-not-are_there-clause-calls
returns-then-not-are_there-clause-calls c =
    call_lacks _ _ c.args.state.now c.args.frame.now _ c.args.args.now _
    (sym c.are_typed.ensures ∙ c.if-not-are_typed.false)
    (sym c.is_instance_type.ensures ∙ c.if-not-is_instance_type.false) c.in-Some.component
    (sym c.item.ensures ∙ c.in-Some.is) c.requires.input.table (sym c.are_there.ensures ∙ c.if-not-are_there.true)

pub returns-in_default-body_of-clause-calls : goal.returns-in_default-body_of-clause-calls
returns-in_default-body_of-clause-calls c =
    call_other _ _ c.args.state.now c.args.frame.now _ c.args.args.now _
    (sym c.are_typed.ensures ∙ c.if-not-are_typed.false)
    (sym c.is_instance_type.ensures ∙ c.if-not-is_instance_type.false) c.in-Some.component
    (sym c.item.ensures ∙ c.in-Some.is) (sym c.body_of.ensures ∙ c.in_default-body_of.is)

pub returns-in_err-arguments-clause-calls : goal.returns-in_err-arguments-clause-calls
returns-in_err-arguments-clause-calls c =
    call_crowded _ _ c.args.state.now c.args.frame.now _ c.args.args.now _ c.argument_values.new.state _ _
    c.from_residual.ensures.1 c.in_err-arguments.ensures.lacks

pub returns-in_err-arguments-clause-keeps : goal.returns-in_err-arguments-clause-keeps
returns-in_err-arguments-clause-keeps c = c.in_err-arguments.ensures.takes.keeps

pub returns-in_err-arguments-clause-adds : goal.returns-in_err-arguments-clause-adds
returns-in_err-arguments-clause-adds c = c.in_err-arguments.ensures.takes.adds

pub returns-in_err-arguments-clause-resources : goal.returns-in_err-arguments-clause-resources
returns-in_err-arguments-clause-resources c = c.in_err-arguments.ensures.takes.resources

pub returns-in_err-arguments-clause-same : goal.returns-in_err-arguments-clause-same
returns-in_err-arguments-clause-same c = c.in_err-arguments.ensures.takes.frame

pub returns-clause-keeps : goal.returns-clause-keeps
returns-clause-keeps c = c.in_ok-arguments.ensures.takes.keeps

pub returns-clause-adds : goal.returns-clause-adds
returns-clause-adds c = c.in_ok-arguments.ensures.takes.adds

pub returns-clause-resources : goal.returns-clause-resources
returns-clause-resources c = c.in_ok-arguments.ensures.takes.resources

pub returns-clause-same : goal.returns-clause-same
returns-clause-same c = c.in_ok-arguments.ensures.takes.frame

pub returns-clause-stays : goal.returns-clause-stays
returns-clause-stays c = stays_so _ _ _ _ _ _ c.in_ok-arguments.ensures.takes.stands

pub returns-clause-calls : goal.returns-clause-calls
returns-clause-calls c =
    call_ready _ _ c.args.state.now c.args.frame.now _ c.args.args.now _
    (sym c.are_typed.ensures ∙ c.if-not-are_typed.false)
    (sym c.is_instance_type.ensures ∙ c.if-not-is_instance_type.false) c.in-Some.component
    (sym c.item.ensures ∙ c.in-Some.is) c.requires.input.table (sym c.are_there.ensures ∙ c.if-not-are_there.false)
    _ _ (sym c.body_of.ensures ∙ c.in-Some-body_of.is) c.argument_values.new.state c.in_ok-arguments.ensures.takes.keeps
    c.in_ok-arguments.arguments c.in_ok-arguments.ensures.values
