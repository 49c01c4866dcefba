use Rattle.std.proofs.Common.{Some, ap, sym, ◌∙◌}
use Rattle.pc_inline_canon.proofs.GotLemmas.{got_none, got_some}
use Rattle.pc_inline_modules.proofs.InstantiationLemmas.{module_missing, module_other}
use Rattle.pc_inline_modules.proofs.HostInstanceLemmas.{host_path}
use Rattle.pc_inline_modules.proofs.WholeLemmas.{unmoved}
use Rattle.pc_inline_modules.proofs.instances.step_core_instance.Goals as goal

pub returns-in_default : goal.returns-in_default
returns-in_default c =
    unmoved (module_missing _ _ c.args.state.now c.args.frame.now c.args.core_module c.args.args.now _ _
    (got_none _ _ c.args.core_module c.as_slice.ensures c.in_default.ensures.lookup.3))

pub instantiate_host-requires-clause-there : goal.instantiate_host-requires-clause-there
instantiate_host-requires-clause-there c =
    host_path _ _ c.args.state.now c.args.frame.now c.args.core_module c.args.args.now c.in-Some.field-0.now
    (got_some _ _ _ c.as_slice.ensures _ c.in-Some.ensures.lookup.3.0 c.in-Some.ensures.lookup.1) _
    c.in-Some-Host.entry (sym c.source_of.ensures ∙ c.in-Some-Host.is ∙ ap Some c.in-Some-Host.field-0-is)
    c.requires.here

pub returns-in-Some-Static-clause-steps : goal.returns-in-Some-Static-clause-steps
returns-in-Some-Static-clause-steps c =
    c.instantiate_static.ensures.steps c.args.core_module c.in-Some.field-0.now
    (got_some _ _ _ c.as_slice.ensures _ c.in-Some.ensures.lookup.3.0 c.in-Some.ensures.lookup.1)
    (sym c.source_of.ensures ∙ c.in-Some-Static.is ∙ ap Some c.in-Some-Static.field-0-is)

pub returns-in-Some-Host-clause-steps : goal.returns-in-Some-Host-clause-steps
returns-in-Some-Host-clause-steps c =
    c.instantiate_host.ensures.steps c.args.core_module c.in-Some.field-0.now
    (got_some _ _ _ c.as_slice.ensures _ c.in-Some.ensures.lookup.3.0 c.in-Some.ensures.lookup.1)
    (sym c.source_of.ensures ∙ c.in-Some-Host.is ∙ ap Some c.in-Some-Host.field-0-is)

pub returns-in-None-clause-steps : goal.returns-in-None-clause-steps
returns-in-None-clause-steps c =
    module_other _ _ c.args.state.now c.args.frame.now c.args.core_module c.args.args.now c.in-Some.field-0.now
    (got_some _ _ _ c.as_slice.ensures _ c.in-Some.ensures.lookup.3.0 c.in-Some.ensures.lookup.1) _ _
    (sym c.source_of.ensures ∙ c.in-None.is)
