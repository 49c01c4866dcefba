use Rattle.pc_types_convert.specs.Adds.{no_context_in_maybe}
use Rattle.pc_types_convert.proofs.KindAdds.{result_added}
use Rattle.pc_types_convert.proofs.AddsLemmas.{type_contexts, contexts_first, contexts_pair}
use Rattle.std.proofs.Common.{refl}
use Rattle.pc_types_lists.proofs.ErrorLemmas.{passed_on}
use Rattle.pc_types_lists.proofs.Growth.{grows_3, grows_trans}
use Rattle.pc_types_convert.proofs.HeldLemmas.{both_held}
use Rattle.pc_types_convert.proofs.PartLemmas.{both_grow}
use Rattle.pc_types_convert.proofs.ThereLemmas.{result_there}
use Rattle.pc_types_convert.proofs.defined.result_entry.Goals as goal

pub put_result-requires : goal.put_result-requires
put_result-requires c =
    let both = both_held _ _ _ c.maybe_value.ensures.grows c.maybe_value-2.ensures.grows c.args.done.now
    c.requires.held c.args.ok c.args.err _ _ c.in_ok-ok.ensures.is c.in_ok-err.ensures.is in
    record { ok = both.0; err = both.1 }

pub returns-in_err-err-clause-grows : goal.returns-in_err-err-clause-grows
returns-in_err-err-clause-grows c = grows_trans _ _ _ c.maybe_value.ensures.grows c.maybe_value-2.ensures.grows

pub returns-in_err-put_result-clause-grows : goal.returns-in_err-put_result-clause-grows
returns-in_err-put_result-clause-grows c =
    grows_3 _ _ _ _ c.maybe_value.ensures.grows c.maybe_value-2.ensures.grows c.put_result.ensures.grows

pub returns-clause-is : goal.returns-clause-is
returns-clause-is c =
    let both = both_grow _ _ _ c.maybe_value-2.ensures.grows c.put_result.ensures.grows c.args.done.now c.args.ok
    c.args.err c.in_ok-ok.ok c.in_ok-err.err c.in_ok-ok.ensures.is c.in_ok-err.ensures.is in
    (c.in_ok-put_result.field-0, _, refl, c.in_ok-put_result.ensures.held, both.0, both.1)

pub returns-clause-grows : goal.returns-clause-grows
returns-clause-grows c =
    grows_3 _ _ _ _ c.maybe_value.ensures.grows c.maybe_value-2.ensures.grows c.put_result.ensures.grows

pub returns-in_err-put_result-clause-full : goal.returns-in_err-put_result-clause-full
returns-in_err-put_result-clause-full c =
    let error = c.from_residual-in_err-put_result in
    passed_on error.result c.in_err-put_result.field-0.0 _ _ _ error.ensures.1 c.in_err-put_result.ensures.full
    (λ next g is.
    result_there _ _ next c.maybe_value-2.ensures.grows (grows_trans _ _ next c.put_result.ensures.grows g) is
    c.args.done.now c.args.ok c.args.err _ _ c.in_ok-ok.ensures.is c.in_ok-err.ensures.is)

pub returns-in_err-ok-clause-adds : goal.returns-in_err-ok-clause-adds
returns-in_err-ok-clause-adds c =
    type_contexts _ _ _ _ (contexts_first _ (no_context_in_maybe c.args.err) _ _ c.maybe_value.ensures.contexts)

pub returns-in_err-err-clause-adds : goal.returns-in_err-err-clause-adds
returns-in_err-err-clause-adds c =
    type_contexts _ _ _ _ (contexts_pair _ _ _ _ _ c.maybe_value.ensures.contexts c.maybe_value-2.ensures.contexts)

pub returns-in_err-put_result-clause-adds : goal.returns-in_err-put_result-clause-adds
returns-in_err-put_result-clause-adds c =
    result_added _ _ _ c.put_result.ensures.grows c.args.done.now _ c.maybe_value-2.ensures.grows c.args.ok
    c.args.err _ _
    c.in_ok-ok.ensures.is c.in_ok-err.ensures.is c.maybe_value.ensures.contexts c.maybe_value-2.ensures.contexts
    c.put_result.ensures.rest c.put_result.ensures.put

pub returns-clause-adds : goal.returns-clause-adds
returns-clause-adds c =
    result_added _ _ _ c.put_result.ensures.grows c.args.done.now _ c.maybe_value-2.ensures.grows c.args.ok
    c.args.err _ _
    c.in_ok-ok.ensures.is c.in_ok-err.ensures.is c.maybe_value.ensures.contexts c.maybe_value-2.ensures.contexts
    c.put_result.ensures.rest c.put_result.ensures.put
