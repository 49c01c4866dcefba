use Rattle.pc_types_convert.proofs.KindAdds.{record_added}
use Rattle.pc_types_convert.proofs.AddsLemmas.{type_contexts}
use Rattle.std.proofs.Common.{refl}
use Rattle.pc_types_lists.proofs.ErrorLemmas.{passed_on}
use Rattle.pc_types_lists.proofs.Growth.{grows_trans}
use Rattle.pc_types_convert.proofs.HeldLemmas.{fields_held}
use Rattle.pc_types_convert.proofs.PartLemmas.{fields_grow}
use Rattle.pc_types_convert.proofs.ThereLemmas.{record_there}
use Rattle.pc_types_convert.proofs.LikeLemmas.{record_like}
use Rattle.pc_types_convert.proofs.defined.record_entry.Goals as goal

pub put_record_type-requires : goal.put_record_type-requires
put_record_type-requires c =
    record {
      parts = fields_held _ _ c.field_types.ensures.grows c.args.done.now c.requires.held c.args.fields.now _
          c.in_ok-fields.ensures.are;
      like = record_like _ _ c.field_types.ensures.grows c.args.done.now c.args.like c.args.fields.now _
          c.requires.like c.record_number.result c.record_number.ensures c.in_ok-fields.ensures.are;
    }

pub returns-in_err-number-clause-grows : goal.returns-in_err-number-clause-grows
returns-in_err-number-clause-grows c =
    grows_trans _ _ _ c.field_types.ensures.grows c.put_record_type.ensures.grows

pub returns-clause-is : goal.returns-clause-is
returns-clause-is c = (
  c.in_ok-number.number,
  _,
  refl,
  c.in_ok-number.ensures.held,
  fields_grow _ _ c.put_record_type.ensures.grows c.args.done.now c.args.fields.now c.in_ok-fields.fields
      c.in_ok-fields.ensures.are,
)

pub returns-clause-grows : goal.returns-clause-grows
returns-clause-grows c = grows_trans _ _ _ c.field_types.ensures.grows c.put_record_type.ensures.grows

pub returns-in_err-number-clause-full : goal.returns-in_err-number-clause-full
returns-in_err-number-clause-full c =
    let error = c.from_residual-in_err-number in
    passed_on error.result c.in_err-number.field-0.0 _ _ _ error.ensures.1
    c.in_err-number.ensures.full
    (λ next g is.
    record_there _ _ next c.put_record_type.ensures.grows g is c.args.done.now c.args.fields.now _
    c.in_ok-fields.ensures.are)

pub returns-in_err-fields-clause-adds : goal.returns-in_err-fields-clause-adds
returns-in_err-fields-clause-adds c = type_contexts _ _ _ _ c.field_types.ensures.contexts

pub returns-in_err-number-clause-adds : goal.returns-in_err-number-clause-adds
returns-in_err-number-clause-adds c =
    record_added _ _ _ c.put_record_type.ensures.grows c.args.done.now c.args.fields.now _ c.in_ok-fields.ensures.are
    c.field_types.ensures.contexts
    c.put_record_type.ensures.rest c.put_record_type.ensures.put

pub returns-clause-adds : goal.returns-clause-adds
returns-clause-adds c =
    record_added _ _ _ c.put_record_type.ensures.grows c.args.done.now c.args.fields.now _ c.in_ok-fields.ensures.are
    c.field_types.ensures.contexts
    c.put_record_type.ensures.rest c.put_record_type.ensures.put
