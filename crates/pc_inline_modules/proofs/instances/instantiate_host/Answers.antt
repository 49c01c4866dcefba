use Rattle.std.proofs.Common.{ap}
use Rattle.pc_types_lists.specs.Types.{Types}
use Rattle.pc_inline_state.proofs.AddsPushLemmas.{instance_adds}
use Rattle.pc_inline_state.proofs.StateLemmas.{keeps_trans}
use Rattle.pc_inline_canon.proofs.PassedLemmas.{passed_lacking}
use Rattle.pc_inline_canon.proofs.StepLemmas.{steps_memory}
use Rattle.pc_inline_modules.proofs.HostInstanceLemmas.{host_few, host_made, host_stuck, use_few}
use Rattle.pc_inline_modules.proofs.InstantiationLemmas.{instance_full, instance_keeps}
use Rattle.pc_inline_modules.proofs.WholeLemmas.{made, unmoved}
use Rattle.pc_inline_modules.proofs.instances.instantiate_host.Goals as goal

pub returns-in_err-given : goal.returns-in_err-given
returns-in_err-given c = unmoved (λ n id at is. steps_memory _ _ _ _ _ _ _ _ c.from_residual.ensures.1)

pub returns-in_default : goal.returns-in_default
returns-in_default c =
    unmoved (λ n id at is. host_stuck _ _ c.args.state.now c.args.frame.now n c.args.args.now id at _ _ is _ _ _
    c.in_default.is c.in_ok-given.ensures)

pub returns-in_err-import : goal.returns-in_err-import
returns-in_err-import c =
    let u = c.use_host.ensures in
    made u.keeps (use_few _ _ _ u.adds) (ap (λ (t : Types). t.resources) u.adds.types)
    (λ n id at is. passed_lacking _ _ _ _ _ _ _ _ _ c.from_residual-in_err-import.ensures.1
    c.in_err-import.ensures.err)

pub returns-in_err-instance : goal.returns-in_err-instance
returns-in_err-instance c =
    let u = c.use_host.ensures in
    let p = c.push_instance.ensures in
    made (keeps_trans _ _ _ u.keeps (instance_keeps _ _ _ _ _ p.grows p.ok p.err))
    (host_few _ _ _ _ u.adds (instance_adds _ _ _ _ _ p.ok p.err))
    (ap (λ (t : Types). t.resources) u.adds.types)
    (λ n id at is. instance_full _ _ _ _ _ _ _ _ _ _ _ c.in_err-instance.was p.full.0 p.grows
    c.from_residual-in_err-instance.ensures.1)

pub returns-in_err-note_module : goal.returns-in_err-note_module
returns-in_err-note_module c =
    let u = c.use_host.ensures in
    let p = c.push_instance.ensures in
    made (keeps_trans _ _ _ u.keeps (instance_keeps _ _ _ _ _ p.grows p.ok p.err))
    (host_few _ _ _ _ u.adds (instance_adds _ _ _ _ _ p.ok p.err))
    (ap (λ (t : Types). t.resources) u.adds.types)
    (λ n id at is. steps_memory _ _ _ _ _ _ _ _ c.from_residual-in_err-note_module.ensures.1)

pub returns-in_err-push : goal.returns-in_err-push
returns-in_err-push c =
    let u = c.use_host.ensures in
    let p = c.push_instance.ensures in
    made (keeps_trans _ _ _ u.keeps (instance_keeps _ _ _ _ _ p.grows p.ok p.err))
    (host_few _ _ _ _ u.adds (instance_adds _ _ _ _ _ p.ok p.err))
    (ap (λ (t : Types). t.resources) u.adds.types)
    (λ n id at is. steps_memory _ _ _ _ _ _ _ _ c.from_residual-in_err-push.ensures.1)

pub returns : goal.returns
returns c =
    let u = c.use_host.ensures in
    let p = c.push_instance.ensures in
    made (keeps_trans _ _ _ u.keeps (instance_keeps _ _ _ _ _ p.grows p.ok p.err))
    (host_few _ _ _ _ u.adds (instance_adds _ _ _ _ _ p.ok p.err))
    (ap (λ (t : Types). t.resources) u.adds.types)
    (λ n id at is. host_made _ _ c.args.state.now c.args.frame.now n c.args.args.now id at _ _ is
    c.use_host.new.state c.in_ok-import.import u.keeps c.in_ok-import.ensures.uses (λ i. (u.rest i).graph.instances)
    c.in-Some.given _ _ _ c.in_ok-instance.instance _ _ c.in-Some.is c.in_ok-given.ensures c.in_ok-instance.ensures.ok
    p.grows c.in_ok-instance.ensures.ordered c.in_ok-instance.ensures.key c.in_ok-note_module.ensures
    (λ i. record c.args.frame.now { core_instances = c.in_ok-push.ensures.ok i }))
