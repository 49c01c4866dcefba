use Rattle.std.proofs.Common.{sym, ◌∙◌}
use Rattle.pc_local.specs.Standing.{component_variable, module_variable}
use Rattle.pc_inline_state.proofs.AddsLemmas.{component_few, definition_few}
use Rattle.pc_inline_state.proofs.StateLemmas.{keeps_trans}
use Rattle.pc_inline_items.proofs.CaptureLemmas.{all_same}
use Rattle.pc_inline_items.proofs.ComponentLemmas.{component_done, component_lacks, module_lacks}
use Rattle.pc_inline_items.proofs.LocalLemmas.{local_crowded, local_unfed}
use Rattle.pc_inline_items.proofs.WholeLemmas.{made, resources_same, resources_twice, unmoved}
use Rattle.pc_inline_items.proofs.components.step_component.Goals as goal

pub returns-in_err-modules : goal.returns-in_err-modules
returns-in_err-modules c = unmoved (local_unfed _ _ _ _ _ _ _ _ _ c.from_residual.ensures.1)

pub returns-in_default : goal.returns-in_default
returns-in_default c =
    unmoved (module_lacks _ _ _ _ c.args.vars.now c.args.state.now c.args.frame.now _ _
    (all_same module_variable c.as_slice.ensures c.captured_modules.ensures c.as_slice-2.ensures
    ∙ sym c.in_ok-modules.ensures ∙ c.in_default.is))

pub returns-in_err-components : goal.returns-in_err-components
returns-in_err-components c = unmoved (local_unfed _ _ _ _ _ _ _ _ _ c.from_residual-in_err-components.ensures.1)

pub returns-in_default-2 : goal.returns-in_default-2
returns-in_default-2 c =
    unmoved (component_lacks _ _ _ _ c.args.vars.now c.args.state.now c.args.frame.now _ _
    (all_same component_variable c.as_slice-3.ensures c.captured_components.ensures c.as_slice-4.ensures
    ∙ sym c.in_ok-components.ensures ∙ c.in_default-2.is))

pub returns-in_err-captured : goal.returns-in_err-captured
returns-in_err-captured c =
    made c.push_closure.ensures.keeps (definition_few _ _ _ c.push_closure.ensures.adds)
    (resources_same c.push_closure.ensures.adds)
    (local_crowded _ _ _ _ _ _ _ _ _ _ c.from_residual-in_err-captured.ensures.1 c.in_err-captured.ensures.lacks)

pub returns-in_err-id : goal.returns-in_err-id
returns-in_err-id c =
    made (keeps_trans _ _ _ c.push_closure.ensures.keeps c.push_definition.ensures.keeps)
    (component_few _ _ _ _ c.push_closure.ensures.adds c.push_definition.ensures.adds)
    (resources_twice c.push_closure.ensures.adds c.push_definition.ensures.adds)
    (local_crowded _ _ _ _ _ _ _ _ _ _ c.from_residual-in_err-id.ensures.1 c.in_err-id.ensures.lacks)

pub returns-in_err-push : goal.returns-in_err-push
returns-in_err-push c =
    made (keeps_trans _ _ _ c.push_closure.ensures.keeps c.push_definition.ensures.keeps)
    (component_few _ _ _ _ c.push_closure.ensures.adds c.push_definition.ensures.adds)
    (resources_twice c.push_closure.ensures.adds c.push_definition.ensures.adds)
    (local_unfed _ _ _ _ _ _ _ _ _ c.from_residual-in_err-push.ensures.1)

pub returns : goal.returns
returns c =
    made (keeps_trans _ _ _ c.push_closure.ensures.keeps c.push_definition.ensures.keeps)
    (component_few _ _ _ _ c.push_closure.ensures.adds c.push_definition.ensures.adds)
    (resources_twice c.push_closure.ensures.adds c.push_definition.ensures.adds)
    (component_done _ _ _ _ c.args.vars.now c.args.state.now c.args.frame.now _ _
    (all_same module_variable c.as_slice.ensures c.captured_modules.ensures c.as_slice-2.ensures
    ∙ sym c.in_ok-modules.ensures ∙ c.in-Some.is)
    (all_same component_variable c.as_slice-3.ensures c.captured_components.ensures c.as_slice-4.ensures
    ∙ sym c.in_ok-components.ensures ∙ c.in-Some-2.is) _ c.in_ok-captured.ensures.key _ _ _ _
    c.in_ok-captured.ensures.ok c.in_ok-id.ensures.key c.in_ok-id.ensures.ok c.in_ok-push.ensures.ok tt)
