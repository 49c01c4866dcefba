use Rattle.std.proofs.Common.{Ok, ap, sym, subst, ◌∙◌}
use Rattle.pc_local.specs.declared.item.LocalInitializer.TheVariants as local
use Rattle.pc_inline_items.specs.Captures.{captured_components}
use Rattle.pc_inline_items.specs.StepsLocal.{StepsLocal}
use Rattle.pc_inline_items.proofs.CaptureLemmas.{same_captured}
use Rattle.pc_inline_items.proofs.LocalLemmas.{local_unfed}
use Rattle.pc_inline_items.proofs.OuterLemmas.{component_aliased, component_unaliased}
use Rattle.pc_inline_items.proofs.components.step_alias_component.Goals as goal

pub returns-in_err-push-in-Some-clause-steps : goal.returns-in_err-push-in-Some-clause-steps
returns-in_err-push-in-Some-clause-steps c t ms st held = local_unfed _ _ _ _ _ _ _ _ _ c.from_residual.ensures.1

pub returns-in_ok-push-in-Some-clause-steps : goal.returns-in_ok-push-in-Some-clause-steps
returns-in_ok-push-in-Some-clause-steps c t ms st held =
    let captured = c.captured_components-captured.ensures
    ∙ ap (λ cs. captured_components cs c.args.closure) (sym held) in
    subst (λ x. StepsLocal t ms c.args.closure (local.AliasComponent c.args.variable) st c.args.frame.now st
    (record c.args.frame.now { components = x }) (Ok tt)) (sym c.in_ok-push-in-Some.ensures.ok)
    (component_aliased t ms c.args.closure st c.args.frame.now c.args.variable c.in-Some.id
    (same_captured c.as_slice.ensures captured c.variable.ensures ∙ sym c.captured_id.ensures ∙ c.in-Some.is) tt)

pub returns-in-None-clause-steps : goal.returns-in-None-clause-steps
returns-in-None-clause-steps c t ms st held =
    let captured = c.captured_components-captured.ensures
    ∙ ap (λ cs. captured_components cs c.args.closure) (sym held) in
    component_unaliased t ms c.args.closure st c.args.frame.now c.args.variable _ _
    (same_captured c.as_slice.ensures captured c.variable.ensures ∙ sym c.captured_id.ensures ∙ c.in-None.is)
