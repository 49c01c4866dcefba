use Rattle.pc_types_convert.proofs.KindAdds.{tuple_added}
use Rattle.pc_types_convert.proofs.AddsLemmas.{type_contexts}
use Rattle.std.proofs.Common.{refl}
use Rattle.pc_types_lists.proofs.ErrorLemmas.{passed_on}
use Rattle.pc_types_lists.proofs.Growth.{grows_trans}
use Rattle.pc_types_convert.proofs.HeldLemmas.{vals_held}
use Rattle.pc_types_convert.proofs.PartLemmas.{vals_grow}
use Rattle.pc_types_convert.proofs.ThereLemmas.{tuple_there}
use Rattle.pc_types_convert.proofs.defined.tuple_entry.Goals as goal

pub put_tuple-requires : goal.put_tuple-requires
put_tuple-requires c =
    let are = c.in_ok-types.ensures.are in
    record { parts = vals_held _ _ c.value_types.ensures.grows c.args.done.now c.requires.held c.args.vs.now _ are }

pub returns-in_err-put_tuple-clause-grows : goal.returns-in_err-put_tuple-clause-grows
returns-in_err-put_tuple-clause-grows c = grows_trans _ _ _ c.value_types.ensures.grows c.put_tuple.ensures.grows

pub returns-clause-is : goal.returns-clause-is
returns-clause-is c = (
  c.in_ok-put_tuple.field-0,
  _,
  refl,
  c.in_ok-put_tuple.ensures.held,
  vals_grow _ _ c.put_tuple.ensures.grows c.args.done.now c.args.vs.now c.in_ok-types.types c.in_ok-types.ensures.are,
)

pub returns-clause-grows : goal.returns-clause-grows
returns-clause-grows c = grows_trans _ _ _ c.value_types.ensures.grows c.put_tuple.ensures.grows

pub returns-in_err-put_tuple-clause-full : goal.returns-in_err-put_tuple-clause-full
returns-in_err-put_tuple-clause-full c =
    let error = c.from_residual-in_err-put_tuple in
    passed_on error.result c.in_err-put_tuple.field-0.0 _ _ _ error.ensures.1 c.in_err-put_tuple.ensures.full
    (λ next g is.
    tuple_there _ _ next c.put_tuple.ensures.grows g is c.args.done.now c.args.vs.now _ c.in_ok-types.ensures.are)

pub returns-in_err-types-clause-full : goal.returns-in_err-types-clause-full
returns-in_err-types-clause-full c =
    passed_on c.from_residual.result c.in_err-types.field-0.0 _ _ _ c.from_residual.ensures.1
    c.in_err-types.ensures.full
    (λ next g is q. (q.1.1.types, q.1.4))

pub returns-in_err-types-clause-adds : goal.returns-in_err-types-clause-adds
returns-in_err-types-clause-adds c = type_contexts _ _ _ _ c.value_types.ensures.contexts

pub returns-in_err-put_tuple-clause-adds : goal.returns-in_err-put_tuple-clause-adds
returns-in_err-put_tuple-clause-adds c =
    tuple_added _ _ _ c.put_tuple.ensures.grows c.args.done.now c.args.vs.now _ c.in_ok-types.ensures.are
    c.value_types.ensures.contexts
    c.put_tuple.ensures.rest c.put_tuple.ensures.put

pub returns-clause-adds : goal.returns-clause-adds
returns-clause-adds c =
    tuple_added _ _ _ c.put_tuple.ensures.grows c.args.done.now c.args.vs.now _ c.in_ok-types.ensures.are
    c.value_types.ensures.contexts
    c.put_tuple.ensures.rest c.put_tuple.ensures.put
