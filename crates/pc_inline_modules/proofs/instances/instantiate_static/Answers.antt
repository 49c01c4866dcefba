use Rattle.std.proofs.Common.{refl}
use Rattle.pc_inline_canon.proofs.StepLemmas.{steps_memory}
use Rattle.pc_inline_modules.proofs.InstantiationLemmas.{instance_few, instance_full, instance_keeps, module_made}
use Rattle.pc_inline_modules.proofs.InstantiationLemmas.{module_stuck}
use Rattle.pc_inline_modules.proofs.WholeLemmas.{made, unmoved}
use Rattle.pc_inline_modules.proofs.instances.instantiate_static.Goals as goal

pub returns-in_err-defs : goal.returns-in_err-defs
returns-in_err-defs c = unmoved (λ n id at is. steps_memory _ _ _ _ _ _ _ _ c.from_residual.ensures.1)

pub returns-in_default : goal.returns-in_default
returns-in_default c =
    unmoved (λ n id at is. module_stuck _ _ c.args.state.now c.args.frame.now n c.args.args.now id at _ is _ _ _
    c.in_default.is c.in_ok-defs.ensures)

pub returns-in_err-instance : goal.returns-in_err-instance
returns-in_err-instance c =
    let p = c.push_instance.ensures in
    made (instance_keeps _ _ _ _ _ p.grows p.ok p.err) (instance_few _ _ _ _ _ _ p.ok p.err) refl
    (λ n id at is. instance_full _ _ _ _ _ _ _ _ _ _ _ c.in_err-instance.was p.full.0 p.grows
    c.from_residual-in_err-instance.ensures.1)

pub returns-in_err-note_module : goal.returns-in_err-note_module
returns-in_err-note_module c =
    let p = c.push_instance.ensures in
    made (instance_keeps _ _ _ _ _ p.grows p.ok p.err) (instance_few _ _ _ _ _ _ p.ok p.err) refl
    (λ n id at is. steps_memory _ _ _ _ _ _ _ _ c.from_residual-in_err-note_module.ensures.1)

pub returns-in_err-push : goal.returns-in_err-push
returns-in_err-push c =
    let p = c.push_instance.ensures in
    made (instance_keeps _ _ _ _ _ p.grows p.ok p.err) (instance_few _ _ _ _ _ _ p.ok p.err) refl
    (λ n id at is. steps_memory _ _ _ _ _ _ _ _ c.from_residual-in_err-push.ensures.1)

pub returns : goal.returns
returns c =
    let p = c.push_instance.ensures in
    made (instance_keeps _ _ _ _ _ p.grows p.ok p.err) (instance_few _ _ _ _ _ _ p.ok p.err) refl
    (λ n id at is. module_made _ _ c.args.state.now c.args.frame.now n c.args.args.now id at _ is
    c.in-Some.defs _ _ _ c.in_ok-instance.instance _ _
    c.in-Some.is c.in_ok-defs.ensures c.in_ok-instance.ensures.ok p.grows c.in_ok-instance.ensures.ordered
    c.in_ok-instance.ensures.key c.in_ok-note_module.ensures
    (λ i. record c.args.frame.now { core_instances = c.in_ok-push.ensures.ok i }))
