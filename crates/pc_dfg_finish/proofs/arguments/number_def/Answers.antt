use Rattle.std.proofs.Common.{All, [], length, sym, subst}
use Rattle.pc_dfg_linearize.specs.Ready.{IsReady}
use Rattle.pc_dfg_linearize.proofs.AllLemmas.{all_first}
use Rattle.pc_dfg_finish.proofs.ArgumentLemmas.{numbers_id, numbers_nothing}
use Rattle.pc_dfg_finish.proofs.RefusedLemmas.{ok_then}
use Rattle.pc_dfg_finish.proofs.arguments.number_def.Goals as goal

pub number-requires-clause-ready : goal.number-requires-clause-ready
number-requires-clause-ready c =
    let g = c.args.graph.now in
    let ready = IsReady g (length c.args.finish.now.instances) in
    all_first ready c.in-Some.id [] (subst (All ready) (sym c.in-Some.ensures) c.requires.ready.parts)

pub returns-in-Some-clause-numbers : goal.returns-in-Some-clause-numbers
returns-in-Some-clause-numbers c =
    ok_then c.number.result (λ closed. numbers_id _ _ _ c.args.def.now c.in-Some.id c.in-Some.ensures closed)
    c.number.ensures.closed

pub returns-in-None-clause-numbers : goal.returns-in-None-clause-numbers
returns-in-None-clause-numbers c =
    numbers_nothing c.args.graph.now c.args.finish.now c.args.def.now c.in-None.ensures c.requires.fits
