use Rattle.pc_types_convert.proofs.KindAdds.{variant_added}
use Rattle.pc_types_convert.proofs.AddsLemmas.{type_contexts}
use Rattle.std.proofs.Common.{refl}
use Rattle.pc_types_lists.proofs.ErrorLemmas.{passed_on}
use Rattle.pc_types_lists.proofs.Growth.{grows_trans}
use Rattle.pc_types_convert.proofs.HeldLemmas.{cases_held}
use Rattle.pc_types_convert.proofs.PartLemmas.{cases_grow}
use Rattle.pc_types_convert.proofs.ThereLemmas.{variant_there}
use Rattle.pc_types_convert.proofs.LikeLemmas.{variant_like}
use Rattle.pc_types_convert.proofs.defined.variant_entry.Goals as goal

pub put_variant-requires : goal.put_variant-requires
put_variant-requires c =
    record {
      parts = cases_held _ _ c.case_types.ensures.grows c.args.done.now c.requires.held c.args.cases.now _
          c.in_ok-cases.ensures.are;
      like = variant_like _ _ c.case_types.ensures.grows c.args.done.now c.args.like c.args.cases.now _
          c.requires.like c.variant_number.result c.variant_number.ensures c.in_ok-cases.ensures.are;
    }

pub returns-in_err-number-clause-grows : goal.returns-in_err-number-clause-grows
returns-in_err-number-clause-grows c = grows_trans _ _ _ c.case_types.ensures.grows c.put_variant.ensures.grows

pub returns-clause-is : goal.returns-clause-is
returns-clause-is c = (
  c.in_ok-number.number,
  _,
  refl,
  c.in_ok-number.ensures.held,
  cases_grow _ _ c.put_variant.ensures.grows c.args.done.now c.args.cases.now c.in_ok-cases.cases
      c.in_ok-cases.ensures.are,
)

pub returns-clause-grows : goal.returns-clause-grows
returns-clause-grows c = grows_trans _ _ _ c.case_types.ensures.grows c.put_variant.ensures.grows

pub returns-in_err-number-clause-full : goal.returns-in_err-number-clause-full
returns-in_err-number-clause-full c =
    let error = c.from_residual-in_err-number in
    passed_on error.result c.in_err-number.field-0.0 _ _ _ error.ensures.1 c.in_err-number.ensures.full
    (λ next g is.
    variant_there _ _ next c.put_variant.ensures.grows g is c.args.done.now c.args.cases.now _
    c.in_ok-cases.ensures.are)

pub returns-in_err-cases-clause-adds : goal.returns-in_err-cases-clause-adds
returns-in_err-cases-clause-adds c = type_contexts _ _ _ _ c.case_types.ensures.contexts

pub returns-in_err-number-clause-adds : goal.returns-in_err-number-clause-adds
returns-in_err-number-clause-adds c =
    variant_added _ _ _ c.put_variant.ensures.grows c.args.done.now c.args.cases.now _ c.in_ok-cases.ensures.are
    c.case_types.ensures.contexts
    c.put_variant.ensures.rest c.put_variant.ensures.put

pub returns-clause-adds : goal.returns-clause-adds
returns-clause-adds c =
    variant_added _ _ _ c.put_variant.ensures.grows c.args.done.now c.args.cases.now _ c.in_ok-cases.ensures.are
    c.case_types.ensures.contexts
    c.put_variant.ensures.rest c.put_variant.ensures.put
