use Rattle.pc_types_convert.proofs.KindAdds.{future_added}
use Rattle.pc_types_convert.proofs.AddsLemmas.{type_contexts}
use Rattle.pc_types_lists.specs.Types.{Resources}
use Rattle.pc_types_lists.proofs.ErrorLemmas.{passed_on}
use Rattle.pc_types_lists.proofs.Growth.{grows_trans}
use Rattle.std.proofs.Common.{◌∙◌, ap, refl, sym}
use Rattle.pc_types_convert.proofs.PartLemmas.{maybe_grows}
use Rattle.pc_types_convert.proofs.ThereLemmas.{future_there}
use Rattle.pc_types_convert.proofs.defined.future_entry.Goals as goal

pub returns-in_err-put_future_table-clause-grows : goal.returns-in_err-put_future_table-clause-grows
returns-in_err-put_future_table-clause-grows c =
    grows_trans _ _ _ c.maybe_value.ensures.grows c.put_future_table.ensures.grows

pub returns-clause-is : goal.returns-clause-is
returns-clause-is c = (
  c.in_ok-put_future_table.field-0,
  _,
  refl,
  c.in_ok-put_future_table.ensures.held,
  c.current_instance-instance.ensures
      ∙ ap (λ (r : Resources). r.current) (c.resources.ensures ∙ sym c.put_future_table.ensures.grows.resources),
  maybe_grows _ _ c.put_future_table.ensures.grows c.args.done.now c.args.v _ c.in_ok-payload.ensures.is,
)

pub returns-clause-grows : goal.returns-clause-grows
returns-clause-grows c = grows_trans _ _ _ c.maybe_value.ensures.grows c.put_future_table.ensures.grows

pub returns-in_err-put_future_table-clause-full : goal.returns-in_err-put_future_table-clause-full
returns-in_err-put_future_table-clause-full c =
    let error = c.from_residual-in_err-put_future_table in
    passed_on error.result c.in_err-put_future_table.field-0.0 _ _ _ error.ensures.1
    c.in_err-put_future_table.ensures.full
    (λ next g is.
    future_there _ _ next c.put_future_table.ensures.grows g is c.args.done.now c.args.v _ _
    (c.current_instance-instance.ensures ∙ ap (λ (r : Resources). r.current) c.resources.ensures)
    c.in_ok-payload.ensures.is)

pub returns-in_err-payload-clause-adds : goal.returns-in_err-payload-clause-adds
returns-in_err-payload-clause-adds c = type_contexts _ _ _ _ c.maybe_value.ensures.contexts

pub returns-in_err-put_future_table-clause-adds : goal.returns-in_err-put_future_table-clause-adds
returns-in_err-put_future_table-clause-adds c =
    future_added _ _ _ c.put_future_table.ensures.grows c.args.done.now c.args.v _ _
    (c.current_instance-instance.ensures ∙ ap (λ (r : Resources). r.current) c.resources.ensures)
    c.in_ok-payload.ensures.is c.maybe_value.ensures.contexts
    c.put_future_table.ensures.rest c.put_future_table.ensures.put

pub returns-clause-adds : goal.returns-clause-adds
returns-clause-adds c =
    future_added _ _ _ c.put_future_table.ensures.grows c.args.done.now c.args.v _ _
    (c.current_instance-instance.ensures ∙ ap (λ (r : Resources). r.current) c.resources.ensures)
    c.in_ok-payload.ensures.is c.maybe_value.ensures.contexts
    c.put_future_table.ensures.rest c.put_future_table.ensures.put
