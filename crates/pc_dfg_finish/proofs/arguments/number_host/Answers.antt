use Rattle.std.proofs.Common.{◌≤◌, length, take, subst, arith}
use Rattle.std.proofs.lemmas.List.{take_all}
use Rattle.pc_dfg_linearize.specs.Arguments.{CanNumber, NumbersAll, host_defs}
use Rattle.pc_dfg_finish.proofs.ArgumentLemmas.{all_can_still, host_all, host_next, numbers_more, numbers_none}
use Rattle.pc_dfg_finish.proofs.OutgrownLemmas.{outgrows_before}
use Rattle.pc_dfg_finish.proofs.arguments.number_host.Goals as goal

pub loop-place-init : goal.loop-place-init
loop-place-init c = numbers_none c.args.graph.now c.args.finish.now c.requires.fits

pub number_named-requires-clause-ready : goal.number_named-requires-clause-ready
number_named-requires-clause-ready c =
    all_can_still c.args.graph.now c.args.finish.now c.loop-place.finish c.loop-place.invariant.continues _
    (host_all (CanNumber c.args.graph.now (length c.args.finish.now.instances)) c.args.args.now c.loop-place.place _
    c.requires.ready c.entry_at.ensures)

pub number_named-requires-clause-fits : goal.number_named-requires-clause-fits
number_named-requires-clause-fits c = c.loop-place.invariant.continues.fits

pub loop-place-preserved : goal.loop-place-preserved
loop-place-preserved c =
    let g = c.args.graph.now in
    let i = c.loop-place.place in
    let args = c.args.args.now in
    subst (NumbersAll g c.args.finish.now c.number_named.new.finish) (host_next args i _ c.entry_at.ensures)
    (numbers_more g c.args.finish.now c.loop-place.finish c.number_named.new.finish (host_defs (take i args)) _
    c.loop-place.invariant c.in_ok-number_named.ensures.numbers)

pub returns-clause-numbers : goal.returns-clause-numbers
returns-clause-numbers c =
    let args = c.args.args.now in
    let ended : length args ≤ c.loop-place.place = omega arith in
    subst (λ es. NumbersAll c.args.graph.now c.args.finish.now c.loop-place.finish (host_defs es))
    (take_all c.loop-place.place args ended) c.loop-place.invariant

pub returns-in_err-number_named-clause-full : goal.returns-in_err-number_named-clause-full
returns-in_err-number_named-clause-full c is =
    let too_many = rw is at c.from_residual.ensures.1 in
    let full = c.in_err-number_named.ensures.full (cc too_many) in
    outgrows_before c.args.graph.now c.args.finish.now c.loop-place.finish c.loop-place.invariant.continues full
