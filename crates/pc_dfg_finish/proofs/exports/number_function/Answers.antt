use Rattle.std.proofs.Common.{[], ◌∷◌, length, subst, ◌∙◌}
use Rattle.std.proofs.lemmas.List.{append-nil}
use Rattle.std.proofs.lemmas.List.Concat.{flat_map-cons}
use Rattle.std.proofs.lemmas.List.Elements.{Contains-push}
use Rattle.pc_dfg_linearize.specs.Arguments.{IsNumbered, OnlyFromThese}
use Rattle.pc_dfg_linearize.specs.Parts.{in_def}
use Rattle.pc_dfg_linearize.specs.declared.id.Id.TheVariants as id
use Rattle.pc_dfg_finish.proofs.FurtherLemmas.{further_def, further_id, further_then}
use Rattle.pc_dfg_finish.proofs.OnlyLemmas.{only_more, only_one}
use Rattle.pc_dfg_finish.proofs.OutgrownLemmas.{outgrows_before}
use Rattle.pc_dfg_linearize.proofs.PartLemmas.{all_only}
use Rattle.pc_dfg_finish.proofs.RefusedLemmas.{ok_then}
use Rattle.pc_dfg_finish.proofs.exports.number_function.Goals as goal

pub returns-clause-further : goal.returns-clause-further
returns-clause-further c =
    let g = c.args.graph.now in
    let can = c.requires.can in
    let old = c.args.finish.now in
    let middle = c.number_def.new.finish in
    let new = c.number.new.finish in
    let numbers = c.in_ok-number_def.ensures.numbers in
    let first = further_def g c.requires.ordered old middle c.args.func.now can.held numbers in
    ok_then c.number.result (λ closed. further_then g old middle new first
    (further_id g c.requires.ordered (length g.instances) middle new (id.Options c.args.options) can.options closed))
    c.number.ensures.closed

pub returns-clause-here : goal.returns-clause-here
returns-clause-here c =
    let numbers = c.in_ok-number_def.ensures.numbers in
    let func = all_only (IsNumbered c.args.graph.now c.number_def.new.finish) c.args.func.now numbers.here in
    ok_then c.number.result (λ closed. record {
      func = λ k d within. closed.continues.numbered _ (func k d within);
      options = closed.here;
    }) c.number.ensures.closed

pub returns-clause-only : goal.returns-clause-only
returns-clause-only c =
    let g = c.args.graph.now in
    let old = c.args.finish.now in
    let middle = c.number_def.new.finish in
    let new = c.number.new.finish in
    let options = id.Options c.args.options in
    let one = flat_map-cons (in_def g) c.args.func.now [] ∙ append-nil (in_def g c.args.func.now) in
    let first = subst (OnlyFromThese g old middle) one c.in_ok-number_def.ensures.numbers.only in
    ok_then c.number.result (λ closed. only_more g old middle new (in_def g c.args.func.now) (options ∷ []) first
    (only_one g middle new (options ∷ []) options (Contains-push [] options) closed.only)) c.number.ensures.closed

pub returns-clause-full : goal.returns-clause-full
returns-clause-full c is =
    let numbers = c.in_ok-number_def.ensures.numbers in
    outgrows_before c.args.graph.now c.args.finish.now c.number_def.new.finish numbers.continues
    (c.number.ensures.full is)

pub returns-in_err-number_def-clause-full : goal.returns-in_err-number_def-clause-full
returns-in_err-number_def-clause-full c is =
    let too_many = rw is at c.from_residual.ensures.1 in
    c.in_err-number_def.ensures.full (cc too_many)
