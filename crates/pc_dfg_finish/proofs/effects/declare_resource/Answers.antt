use Rattle.std.proofs.Common.{All, length, subst}
use Rattle.pc_dfg.specs.Held.{HeldEffect}
use Rattle.pc_dfg.specs.Names.{each_of, in_effect, in_resource}
use Rattle.pc_dfg_linearize.specs.Arguments.{CanNumber}
use Rattle.pc_dfg_finish.proofs.EffectLemmas.{declared_done, resource_stays}
use Rattle.pc_dfg_finish.proofs.NextLemmas.{next_held, next_ready}
use Rattle.pc_dfg_finish.proofs.OutgrownLemmas.{resources_outgrow}
use Rattle.pc_dfg_finish.proofs.RefusedLemmas.{ok_then}
use Rattle.pc_dfg_finish.proofs.effects.declare_resource.Goals as goal

pub index-resource-requires : goal.index-resource-requires
unfolding HeldEffect
index-resource-requires c = next_held c.args.graph.now c.requires.ordered c.args.finish.now _ c.requires.next

pub destructor_of-requires-clause-ready : goal.destructor_of-requires-clause-ready
unfolding in_effect in_resource
destructor_of-requires-clause-ready c =
    let g = c.args.graph.now in
    subst (λ o. All (CanNumber g (length c.args.finish.now.instances)) (each_of in_resource o)) c.index-resource.ensures
    (next_ready g c.requires.ordered c.args.finish.now _ c.requires.next c.requires.grouped)

pub returns-clause-done : goal.returns-clause-done
returns-clause-done c =
    ok_then c.push_resource.result (declared_done c.args.graph.now c.requires.ordered c.requires.grouped
    c.args.finish.now c.destructor_of.new.finish c.args.index c.requires.next c.index-resource.result.now
    c.index-resource.ensures c.in_ok-dtor.dtor c.in_ok-dtor.ensures.prepares _) c.push_resource.ensures.added

pub returns-clause-instantiated : goal.returns-clause-instantiated
returns-clause-instantiated c =
    ok_then c.push_resource.result (resource_stays c.args.graph.now c.requires.ordered c.requires.grouped
    c.args.finish.now c.destructor_of.new.finish c.args.index c.requires.next c.index-resource.result.now
    c.index-resource.ensures c.in_ok-dtor.dtor c.in_ok-dtor.ensures.prepares _) c.push_resource.ensures.added

pub returns-clause-full : goal.returns-clause-full
returns-clause-full c is fills made =
    resources_outgrow c.args.graph.now c.requires.ordered c.args.finish.now c.destructor_of.new.finish _ c.requires.next
    c.in_ok-dtor.ensures.prepares.numbers.continues (c.push_resource.ensures.full is)

pub returns-in_err-dtor-clause-full : goal.returns-in_err-dtor-clause-full
returns-in_err-dtor-clause-full c is =
    let too_many = rw is at c.from_residual.ensures.1 in
    c.in_err-dtor.ensures.full (cc too_many)
