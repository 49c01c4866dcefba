use Rattle.std.proofs.Common.{Some, ap, ◌∙◌}
use Rattle.pc_types_lists.specs.Known.{resource_of}
use Rattle.pc_types_lists.specs.Types.{Resources}
use Rattle.pc_types_lists.proofs.KeptTypes.{keeps_same, keeps_whatever}
use Rattle.pc_inline_state.proofs.RefusedLemmas.{memory_lacks}
use Rattle.pc_inline_resources.proofs.KnownLemmas.{noted_trail, others_known, put_trail}
use Rattle.pc_inline_resources.proofs.known.make_known.Goals as goal

pub returns-in_err-push-clause-err : goal.returns-in_err-push-clause-err
returns-in_err-push-clause-err c = memory_lacks _ _ c.from_residual.ensures.1

pub returns-in_err-register_resource-clause-trail : goal.returns-in_err-register_resource-clause-trail
returns-in_err-register_resource-clause-trail c =
    noted_trail _ _ _ c.args.n c.lookup-was.result
    (c.lookup-was.ensures ∙ ap (λ (k : Resources). resource_of k.known c.args.n) c.resources.ensures)
    (c.in_err-register_resource.ensures.err ∙ c.resources_mut.ensures.value) _ c.in_ok-push.ensures.ok

pub returns-in_err-register_resource-clause-converted : goal.returns-in_err-register_resource-clause-converted
returns-in_err-register_resource-clause-converted c =
    let same = c.in_err-register_resource.ensures.err ∙ c.resources_mut.ensures.value in
    c.forget.ensures _ c.args.state.now.types _ c.requires.sound
    (keeps_whatever c.args.state.now.types c.args.state.now.types c.args.state.now.types.resources
    c.register_resource.new.self
    (keeps_same c.args.state.now.types))
    (ap (λ (k : Resources). k.current) same) (λ q other. ap (λ (k : Resources). resource_of k.known q) same)
    c.requires.converted

pub returns-in_err-register_resource-clause-err : goal.returns-in_err-register_resource-clause-err
returns-in_err-register_resource-clause-err c = memory_lacks _ _ c.from_residual-in_err-register_resource.ensures.1

pub returns-clause-trail : goal.returns-clause-trail
returns-clause-trail c =
    put_trail _ _ _ c.args.n (Some c.args.r) _ c.resources_mut.ensures.value c.in_ok-register_resource.ensures.ok
    c.register_resource.ensures.current c.lookup-was.result
    (c.lookup-was.ensures ∙ ap (λ (k : Resources). resource_of k.known c.args.n) c.resources.ensures) _
    c.in_ok-push.ensures.ok

pub returns-clause-converted : goal.returns-clause-converted
returns-clause-converted c =
    c.forget.ensures _ c.args.state.now.types _ c.requires.sound
    (keeps_whatever c.args.state.now.types c.args.state.now.types c.args.state.now.types.resources
    c.register_resource.new.self
    (keeps_same c.args.state.now.types))
    (c.register_resource.ensures.current ∙ ap (λ (k : Resources). k.current) c.resources_mut.ensures.value)
    (others_known c.args.state.now.types.resources c.register_resource.new.self c.args.n (Some c.args.r) _
    c.resources_mut.ensures.value c.in_ok-register_resource.ensures.ok)
    c.requires.converted
