use Rattle.std.proofs.Common.{All, length, subst}
use Rattle.pc_dfg.specs.Held.{HeldEffect}
use Rattle.pc_dfg.specs.Names.{each_of, in_effect, in_instance}
use Rattle.pc_dfg_linearize.specs.Arguments.{CanNumber}
use Rattle.pc_dfg_finish.proofs.EffectLemmas.{instance_stays, made_done}
use Rattle.pc_dfg_finish.proofs.NextLemmas.{next_held, next_ready}
use Rattle.pc_dfg_finish.proofs.OutgrownLemmas.{instances_outgrow}
use Rattle.pc_dfg_finish.proofs.RefusedLemmas.{ok_then}
use Rattle.pc_dfg_finish.proofs.effects.make_instance.Goals as goal

pub index-requires : goal.index-requires
unfolding HeldEffect
index-requires c = (next_held c.args.graph.now c.requires.ordered c.args.finish.now _ c.requires.next).0

pub instantiation_of-requires-clause-ready : goal.instantiation_of-requires-clause-ready
unfolding in_effect
instantiation_of-requires-clause-ready c =
    let g = c.args.graph.now in
    subst (λ o. All (CanNumber g (length c.args.finish.now.instances)) (each_of in_instance o)) c.index.ensures
    (next_ready g c.requires.ordered c.args.finish.now _ c.requires.next c.requires.grouped)

pub returns-clause-done : goal.returns-clause-done
returns-clause-done c =
    ok_then c.push_instance.result (made_done c.args.graph.now c.requires.ordered c.requires.grouped
    c.args.finish.now c.instantiation_of.new.finish c.args.instance c.args.owner c.requires.next c.index.result.now
    c.index.ensures c.in_ok-instantiation.instantiation c.in_ok-instantiation.ensures.prepares _)
    c.push_instance.ensures.added

pub returns-clause-instantiated : goal.returns-clause-instantiated
returns-clause-instantiated c =
    ok_then c.push_instance.result (instance_stays c.args.graph.now c.requires.ordered c.requires.grouped
    c.args.finish.now c.instantiation_of.new.finish c.args.instance c.args.owner c.requires.next c.index.result.now
    c.index.ensures c.in_ok-instantiation.instantiation c.in_ok-instantiation.ensures.prepares _)
    c.push_instance.ensures.added

pub returns-clause-full : goal.returns-clause-full
returns-clause-full c is =
    instances_outgrow c.args.graph.now c.requires.ordered c.args.finish.now c.instantiation_of.new.finish
    c.args.instance c.args.owner c.requires.next c.in_ok-instantiation.ensures.prepares.numbers.continues (c.push_instance.ensures.full is)

pub returns-in_err-instantiation-clause-full : goal.returns-in_err-instantiation-clause-full
returns-in_err-instantiation-clause-full c is =
    let too_many = rw is at c.from_residual.ensures.1 in
    c.in_err-instantiation.ensures.full (cc too_many)
