use Rattle.pc_types_convert.proofs.KindAdds.{list_added}
use Rattle.pc_types_convert.proofs.AddsLemmas.{type_contexts}
use Rattle.std.proofs.Common.{refl}
use Rattle.pc_types_lists.proofs.ErrorLemmas.{passed_on}
use Rattle.pc_types_lists.proofs.Growth.{grows_trans}
use Rattle.pc_types_convert.proofs.HeldLemmas.{val_held}
use Rattle.pc_types_convert.proofs.PartLemmas.{val_grows}
use Rattle.pc_types_convert.proofs.ThereLemmas.{list_there}
use Rattle.pc_types_convert.proofs.defined.list_entry.Goals as goal

pub put_list-requires : goal.put_list-requires
put_list-requires c =
    record {
      part = val_held _ _ c.value.ensures.grows c.args.done.now c.requires.held c.args.v _ c.in_ok-element.ensures.is;
    }

pub returns-in_err-put_list-clause-grows : goal.returns-in_err-put_list-clause-grows
returns-in_err-put_list-clause-grows c = grows_trans _ _ _ c.value.ensures.grows c.put_list.ensures.grows

pub returns-clause-is : goal.returns-clause-is
returns-clause-is c = (
  c.in_ok-put_list.field-0,
  _,
  refl,
  c.in_ok-put_list.ensures.held,
  val_grows _ _ c.put_list.ensures.grows c.args.done.now c.args.v c.in_ok-element.element c.in_ok-element.ensures.is,
)

pub returns-clause-grows : goal.returns-clause-grows
returns-clause-grows c = grows_trans _ _ _ c.value.ensures.grows c.put_list.ensures.grows

pub returns-in_err-put_list-clause-full : goal.returns-in_err-put_list-clause-full
returns-in_err-put_list-clause-full c =
    let error = c.from_residual-in_err-put_list in
    passed_on error.result c.in_err-put_list.field-0.0 _ _ _ error.ensures.1 c.in_err-put_list.ensures.full
    (λ next g is.
    list_there _ _ next c.put_list.ensures.grows g is c.args.done.now c.args.v _ c.in_ok-element.ensures.is)

pub returns-in_err-element-clause-adds : goal.returns-in_err-element-clause-adds
returns-in_err-element-clause-adds c = type_contexts _ _ _ _ c.value.ensures.contexts

pub returns-in_err-put_list-clause-adds : goal.returns-in_err-put_list-clause-adds
returns-in_err-put_list-clause-adds c =
    list_added _ _ _ c.put_list.ensures.grows c.args.done.now c.args.v _ c.in_ok-element.ensures.is
    c.value.ensures.contexts
    c.put_list.ensures.rest c.put_list.ensures.put

pub returns-clause-adds : goal.returns-clause-adds
returns-clause-adds c =
    list_added _ _ _ c.put_list.ensures.grows c.args.done.now c.args.v _ c.in_ok-element.ensures.is
    c.value.ensures.contexts
    c.put_list.ensures.rest c.put_list.ensures.put
