use Rattle.std.proofs.Common.{take, sym, subst}
use Rattle.std.proofs.lemmas.List.{take_all}
use Rattle.pc_entity.proofs.Growing.{take-next}
use Rattle.pc_dfg_linearize.specs.Arguments.{NumbersAll}
use Rattle.pc_dfg_finish.proofs.ArgumentLemmas.{can_still_at, item_at, numbers_more, numbers_none}
use Rattle.pc_dfg_finish.proofs.OutgrownLemmas.{outgrows_before}
use Rattle.pc_dfg_finish.proofs.arguments.number_all.Goals as goal

pub loop-def-init : goal.loop-def-init
loop-def-init c = numbers_none c.args.graph.now c.args.finish.now c.requires.fits

pub number_def-requires-clause-ready : goal.number_def-requires-clause-ready
number_def-requires-clause-ready c =
    let at = item_at c.args.defs.now c.loop-def.def-index c.def-item.result c.loop-def-test.true c.def-item.is in
    can_still_at c.args.graph.now c.args.finish.now c.loop-def.finish c.loop-def.invariant.continues c.args.defs.now
    c.loop-def.def-index _ c.requires.ready at

pub number_def-requires-clause-fits : goal.number_def-requires-clause-fits
number_def-requires-clause-fits c = c.loop-def.invariant.continues.fits

pub loop-def-preserved : goal.loop-def-preserved
loop-def-preserved c =
    let g = c.args.graph.now in
    let i = c.loop-def.def-index in
    let x = c.def-item.result in
    let at = item_at c.args.defs.now i x c.loop-def-test.true c.def-item.is in
    subst (NumbersAll g c.args.finish.now c.number_def.new.finish) (sym (take-next c.args.defs.now i x at))
    (numbers_more g c.args.finish.now c.loop-def.finish c.number_def.new.finish (take i c.args.defs.now) _
    c.loop-def.invariant c.in_ok-number_def.ensures.numbers)

pub returns-clause-numbers : goal.returns-clause-numbers
returns-clause-numbers c =
    subst (NumbersAll c.args.graph.now c.args.finish.now c.loop-def.finish)
    (take_all c.loop-def.def-index c.args.defs.now c.loop-def-test.false) c.loop-def.invariant

pub returns-in_err-number_def-clause-full : goal.returns-in_err-number_def-clause-full
returns-in_err-number_def-clause-full c is =
    let too_many = rw is at c.from_residual.ensures.1 in
    let full = c.in_err-number_def.ensures.full (cc too_many) in
    outgrows_before c.args.graph.now c.args.finish.now c.loop-def.finish c.loop-def.invariant.continues full
