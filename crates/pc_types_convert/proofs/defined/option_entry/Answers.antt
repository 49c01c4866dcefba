use Rattle.pc_types_convert.proofs.KindAdds.{option_added}
use Rattle.pc_types_convert.proofs.AddsLemmas.{type_contexts}
use Rattle.std.proofs.Common.{refl}
use Rattle.pc_types_lists.proofs.ErrorLemmas.{passed_on}
use Rattle.pc_types_lists.proofs.Growth.{grows_trans}
use Rattle.pc_types_convert.proofs.HeldLemmas.{val_held}
use Rattle.pc_types_convert.proofs.PartLemmas.{val_grows}
use Rattle.pc_types_convert.proofs.ThereLemmas.{option_there}
use Rattle.pc_types_convert.proofs.defined.option_entry.Goals as goal

pub put_option-requires : goal.put_option-requires
put_option-requires c =
    record {
      part = val_held _ _ c.value.ensures.grows c.args.done.now c.requires.held c.args.v _ c.in_ok-ty.ensures.is;
    }

pub returns-in_err-put_option-clause-grows : goal.returns-in_err-put_option-clause-grows
returns-in_err-put_option-clause-grows c = grows_trans _ _ _ c.value.ensures.grows c.put_option.ensures.grows

pub returns-clause-is : goal.returns-clause-is
returns-clause-is c = (
  c.in_ok-put_option.field-0,
  _,
  refl,
  c.in_ok-put_option.ensures.held,
  val_grows _ _ c.put_option.ensures.grows c.args.done.now c.args.v c.in_ok-ty.ty c.in_ok-ty.ensures.is,
)

pub returns-clause-grows : goal.returns-clause-grows
returns-clause-grows c = grows_trans _ _ _ c.value.ensures.grows c.put_option.ensures.grows

pub returns-in_err-put_option-clause-full : goal.returns-in_err-put_option-clause-full
returns-in_err-put_option-clause-full c =
    let error = c.from_residual-in_err-put_option in
    passed_on error.result c.in_err-put_option.field-0.0 _ _ _ error.ensures.1 c.in_err-put_option.ensures.full
    (λ next g is.
    option_there _ _ next c.put_option.ensures.grows g is c.args.done.now c.args.v _ c.in_ok-ty.ensures.is)

pub returns-in_err-ty-clause-adds : goal.returns-in_err-ty-clause-adds
returns-in_err-ty-clause-adds c = type_contexts _ _ _ _ c.value.ensures.contexts

pub returns-in_err-put_option-clause-adds : goal.returns-in_err-put_option-clause-adds
returns-in_err-put_option-clause-adds c =
    option_added _ _ _ c.put_option.ensures.grows c.args.done.now c.args.v _ c.in_ok-ty.ensures.is
    c.value.ensures.contexts
    c.put_option.ensures.rest c.put_option.ensures.put

pub returns-clause-adds : goal.returns-clause-adds
returns-clause-adds c =
    option_added _ _ _ c.put_option.ensures.grows c.args.done.now c.args.v _ c.in_ok-ty.ensures.is
    c.value.ensures.contexts
    c.put_option.ensures.rest c.put_option.ensures.put
