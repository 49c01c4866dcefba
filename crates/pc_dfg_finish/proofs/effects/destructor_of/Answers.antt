use Rattle.std.proofs.Common.{All, [], Some, length, sym, subst, ap, ◌∙◌}
use Rattle.std.specs.Option.{option_map}
use Rattle.pc_dfg.specs.Names.{if_any}
use Rattle.pc_dfg_linearize.specs.Arguments.{CanNumber, IsNumbered, NumbersAll}
use Rattle.pc_dfg_linearize.specs.Converted.{def_in}
use Rattle.pc_dfg_linearize.specs.Ready.{IsReadyDef}
use Rattle.pc_dfg_linearize.proofs.AllLemmas.{all_first}
use Rattle.pc_dfg_finish.proofs.ArgumentLemmas.{all_ready, numbers_none}
use Rattle.pc_dfg_finish.proofs.effects.destructor_of.Goals as goal

pub number_def-requires-clause-ready : goal.number_def-requires-clause-ready
number_def-requires-clause-ready c =
    let can = CanNumber c.args.graph.now (length c.args.finish.now.instances) in
    all_first can c.in-Some.def [] (subst (λ o. All can (if_any o)) c.in-Some.is c.requires.ready)

pub def_of-requires-clause-ready : goal.def_of-requires-clause-ready
def_of-requires-clause-ready c =
    let g = c.args.graph.now in
    let f = c.number_def.new.finish in
    let can = CanNumber g (length c.args.finish.now.instances) in
    all_first (IsReadyDef g (length f.instances)) c.in-Some.def [] (all_ready g c.args.finish.now f _
    c.in_ok-number_def-in-Some.ensures.numbers (subst (λ o. All can (if_any o)) c.in-Some.is c.requires.ready))

pub def_of-requires-clause-numbered : goal.def_of-requires-clause-numbered
def_of-requires-clause-numbered c =
    all_first (IsNumbered c.args.graph.now c.number_def.new.finish) c.in-Some.def []
    c.in_ok-number_def-in-Some.ensures.numbers.here

pub returns-in-None-clause-prepares : goal.returns-in-None-clause-prepares
returns-in-None-clause-prepares c =
    let g = c.args.graph.now in
    let f = c.args.finish.now in
    let none = sym c.in-None.is in
    record {
      numbers = subst (λ o. NumbersAll g f f (if_any o)) none (numbers_none g f c.requires.fits);
      is = ap (option_map (def_in g f)) none;
    }

pub returns-in_ok-def_of-in-Some-clause-prepares : goal.returns-in_ok-def_of-in-Some-clause-prepares
returns-in_ok-def_of-in-Some-clause-prepares c =
    let g = c.args.graph.now in
    let f = c.number_def.new.finish in
    let is = sym c.in-Some.is in
    record {
      numbers = subst (λ o. NumbersAll g c.args.finish.now f (if_any o)) is c.in_ok-number_def-in-Some.ensures.numbers;
      is = ap Some c.in_ok-def_of-in-Some.ensures ∙ ap (option_map (def_in g f)) is;
    }

pub returns-in_err-number_def-in-Some-clause-full : goal.returns-in_err-number_def-in-Some-clause-full
returns-in_err-number_def-in-Some-clause-full c is =
    let too_many = rw is at c.from_residual.ensures.1 in
    c.in_err-number_def-in-Some.ensures.full (cc too_many)
