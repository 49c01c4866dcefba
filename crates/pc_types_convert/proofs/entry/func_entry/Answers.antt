use Rattle.pc_types_convert.proofs.KindAdds.{func_none, func_params_added, func_tuples_added, func_added}
use Rattle.std.proofs.Common.{refl}
use Rattle.std.proofs.lemmas.Option.{slice_get_within}
use Rattle.pc_types_lists.proofs.ErrorLemmas.{passed_on}
use Rattle.pc_types_lists.proofs.Growth.{grows_3, grows_trans, too_full}
use Rattle.pc_types_convert.specs.Entries.{FuncIs}
use Rattle.pc_types_convert.proofs.FuncLemmas.{func_made, made_there, params_grow}
use Rattle.pc_types_convert.proofs.HeldLemmas.{are_held_grow}
use Rattle.pc_types_convert.proofs.PartLemmas.{if_ok_more}
use Rattle.pc_types_convert.proofs.LikeLemmas.{func_like}
use Rattle.pc_types_convert.proofs.entry.func_entry.Goals as goal

pub results_tuple-requires-clause-held : goal.results_tuple-requires-clause-held
results_tuple-requires-clause-held c = are_held_grow _ _ c.params_tuple.ensures.grows c.args.done.now c.requires.held

pub put_func-requires : goal.put_func-requires
put_func-requires c =
    let p = params_grow _ _ c.results_tuple.ensures.grows c.args.done.now c.args.params.now c.in_ok-params.params
    c.in_ok-params.ensures.are in
    record {
      params = slice_get_within _ c.in_ok-params.params.0 p.0 p.1;
      results = slice_get_within _ c.in_ok-results.results.0 _ c.in_ok-results.ensures.are.1;
      like = func_like _ _ (grows_trans _ _ _ c.params_tuple.ensures.grows c.results_tuple.ensures.grows)
          c.args.done.now c.args.like c.args.params.now c.args.returns c.args.async_ c.requires.like
          c.func_number.result c.func_number.ensures (record {
            param_names = c.in_ok-param_names.param_names;
            params = c.in_ok-params.params;
            results = c.in_ok-results.results;
            async_ = c.args.async_;
          }) c.in_ok-param_names.ensures;
    }

pub returns-in_err-results-clause-grows : goal.returns-in_err-results-clause-grows
returns-in_err-results-clause-grows c = grows_trans _ _ _ c.params_tuple.ensures.grows c.results_tuple.ensures.grows

pub returns-clause-grows : goal.returns-clause-grows
returns-clause-grows c =
    grows_3 _ _ _ _ c.params_tuple.ensures.grows c.results_tuple.ensures.grows c.put_func.ensures.grows

pub returns-clause-is : goal.returns-clause-is
returns-clause-is c =
    if_ok_more _ (λ i. FuncIs c.put_func.new.self c.args.done.now c.args.params.now c.args.returns c.args.async_ i)
    (func_made _ _ _ c.results_tuple.ensures.grows c.put_func.ensures.grows c.args.done.now c.args.params.now
    c.args.returns c.args.async_ _ _ _ c.in_ok-param_names.ensures c.in_ok-params.ensures.are
    c.in_ok-results.ensures.are)
    c.put_func.result c.put_func.ensures.held

pub returns-in_err-params-clause-full : goal.returns-in_err-params-clause-full
returns-in_err-params-clause-full c =
    let e = c.from_residual-in_err-params in
    passed_on e.result c.in_err-params.field-0.0 _ _ _ e.ensures.1 c.in_err-params.ensures.full
    (λ next g is q. (q.1.0.params, (q.1.1, q.1.4, q.1.8)))

pub returns-in_err-results-clause-full : goal.returns-in_err-results-clause-full
returns-in_err-results-clause-full c =
    let e = c.from_residual-in_err-results in
    passed_on e.result c.in_err-results.field-0.0 _ _ _ e.ensures.1 c.in_err-results.ensures.full
    (λ next g is q. (q.1.0.results, (q.1.2, q.1.5, q.1.9)))

pub returns-clause-full : goal.returns-clause-full
returns-clause-full c h =
    too_full _ _ _
    (λ next g.
    made_there _ _ next c.results_tuple.ensures.grows (grows_trans _ _ next c.put_func.ensures.grows g)
    c.args.done.now c.args.params.now c.args.returns c.args.async_ _ _ _ c.in_ok-param_names.ensures
    c.in_ok-params.ensures.are c.in_ok-results.ensures.are)
    (c.put_func.ensures.full h)

pub returns-in_err-param_names-clause-adds : goal.returns-in_err-param_names-clause-adds
returns-in_err-param_names-clause-adds c =
    func_none c.args.done.now c.args.params.now c.args.returns c.args.async_ _ _ refl

pub returns-in_err-params-clause-adds : goal.returns-in_err-params-clause-adds
returns-in_err-params-clause-adds c =
    func_params_added c.args.done.now c.args.params.now c.args.returns c.args.async_ _ _ c.params_tuple.ensures.adds

pub returns-in_err-results-clause-adds : goal.returns-in_err-results-clause-adds
returns-in_err-results-clause-adds c =
    func_tuples_added c.args.done.now c.args.params.now c.args.returns c.args.async_ _ _ c.params_tuple.ensures.adds _
    c.results_tuple.ensures.grows c.results_tuple.ensures.adds

pub returns-clause-adds : goal.returns-clause-adds
returns-clause-adds c =
    func_added c.args.done.now c.args.params.now c.args.returns c.args.async_ _ _ c.params_tuple.ensures.adds _
    c.results_tuple.ensures.grows c.results_tuple.ensures.adds _ c.put_func.ensures.grows _
    (func_made _ _ _ c.results_tuple.ensures.grows c.put_func.ensures.grows c.args.done.now c.args.params.now
    c.args.returns c.args.async_ _ _ _ c.in_ok-param_names.ensures c.in_ok-params.ensures.are
    c.in_ok-results.ensures.are)
    c.put_func.ensures.rest c.put_func.ensures.put
