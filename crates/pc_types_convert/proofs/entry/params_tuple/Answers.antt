use Rattle.pc_types_convert.proofs.KindAdds.{params_added}
use Rattle.pc_types_convert.proofs.AddsLemmas.{tuple_contexts}
use Rattle.pc_types_lists.proofs.ErrorLemmas.{passed_on}
use Rattle.pc_types_lists.proofs.Growth.{grows_trans, too_full}
use Rattle.pc_types_convert.specs.Entries.{ParamsAre}
use Rattle.pc_types_convert.proofs.FuncLemmas.{params_are, params_wanted}
use Rattle.pc_types_convert.proofs.HeldLemmas.{params_held}
use Rattle.pc_types_convert.proofs.PartLemmas.{if_ok_more}
use Rattle.pc_types_convert.proofs.entry.params_tuple.Goals as goal

pub put_tuple-requires : goal.put_tuple-requires
put_tuple-requires c =
    record {
      parts = params_held _ _ c.param_types.ensures.grows c.args.done.now c.requires.held c.args.params.now _
          c.in_ok-types.ensures.are;
    }

pub returns-clause-are : goal.returns-clause-are
returns-clause-are c =
    let last = c.put_tuple.new.self in
    if_ok_more _ (λ i. ParamsAre last c.args.done.now c.args.params.now i)
    (params_are _ last c.put_tuple.ensures.grows c.args.done.now c.args.params.now c.in_ok-types.types
    c.in_ok-types.ensures.are)
    c.put_tuple.result c.put_tuple.ensures.held

pub returns-clause-grows : goal.returns-clause-grows
returns-clause-grows c = grows_trans _ _ _ c.param_types.ensures.grows c.put_tuple.ensures.grows

pub returns-in_err-types-clause-full : goal.returns-in_err-types-clause-full
returns-in_err-types-clause-full c =
    passed_on c.from_residual.result c.in_err-types.field-0.0 _ _ _ c.from_residual.ensures.1
    c.in_err-types.ensures.full
    (λ next g is q. (q.1.0.types, q.1.2))

pub returns-clause-full : goal.returns-clause-full
returns-clause-full c h =
    too_full _ _ _
    (λ next g is.
    params_wanted _ _ next c.put_tuple.ensures.grows g is c.args.done.now c.args.params.now _ c.in_ok-types.ensures.are)
    (c.put_tuple.ensures.full h)

pub returns-in_err-types-clause-adds : goal.returns-in_err-types-clause-adds
returns-in_err-types-clause-adds c = tuple_contexts _ _ _ _ c.param_types.ensures.contexts

pub returns-clause-adds : goal.returns-clause-adds
returns-clause-adds c =
    params_added _ _ _ c.put_tuple.ensures.grows c.args.done.now c.args.params.now _ c.in_ok-types.ensures.are
    c.param_types.ensures.contexts c.put_tuple.ensures.rest c.put_tuple.ensures.put
