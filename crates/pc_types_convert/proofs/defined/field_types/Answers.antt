use Rattle.pc_types_convert.specs.Adds.{no_context_in_field}
use Rattle.pc_types_convert.proofs.AddsLemmas.{contexts_next}
use Rattle.pc_types_lists.proofs.ErrorLemmas.{passed_on}
use Rattle.std.proofs.Common.{arith, sym}
use Rattle.pc_types_convert.specs.Parts.{FieldIs}
use Rattle.pc_types_lists.proofs.Growth.{grows_trans}
use Rattle.pc_types_lists.proofs.ZipLemmas.{zip_here}
use Rattle.pc_types_convert.proofs.PartLemmas.{field_grows, zip_step}
use Rattle.pc_types_convert.proofs.defined.field_types.Goals as goal

pub returns-in_err-value-clause-grows : goal.returns-in_err-value-clause-grows
returns-in_err-value-clause-grows c =
    grows_trans _ _ _ c.loop-field.invariant.grows c.value.ensures.grows

pub returns-in_err-push-clause-grows : goal.returns-in_err-push-clause-grows
returns-in_err-push-clause-grows c =
    grows_trans _ _ _ c.loop-field.invariant.grows c.value.ensures.grows

pub loop-field-preserved : goal.loop-field-preserved
loop-field-preserved c =
    let l = c.loop-field in
    let s = c.args.done.now in
    let now = c.value.ensures.grows in
    record {
      are =
          zip_step (FieldIs l.interned s) (FieldIs c.value.new.interned s) (field_grows _ _ now s) c.args.fields.now _ _
          l.field-index c.field-item.result (c.in_ok-name.name, c.in_ok-value.field-0) (omega arith) c.field-item.is
          l.invariant.are (sym c.in_ok-name.ensures, c.in_ok-value.ensures.is) c.in_ok-push.ensures.ok;
      grows = grows_trans _ _ _ l.invariant.grows now;
      contexts = contexts_next no_context_in_field c.args.fields.now l.field-index c.field-item.result (omega arith)
          c.field-item.is _ _ _
          l.invariant.contexts c.value.ensures.contexts;
    }

pub returns-in_err-value-clause-full : goal.returns-in_err-value-clause-full
returns-in_err-value-clause-full c =
    passed_on c.from_residual-in_err-value.result c.in_err-value.field-0.0 _ _ _ c.from_residual-in_err-value.ensures.1
    c.in_err-value.ensures.full
    (λ next g is q.
    let here = zip_here
    (FieldIs next c.args.done.now) c.args.fields.now q.0 c.loop-field.field-index c.field-item.result
    (omega arith) c.field-item.is q.1 in
    (here.0.1, here.1.1))

pub returns-in_err-value-clause-contexts : goal.returns-in_err-value-clause-contexts
returns-in_err-value-clause-contexts c =
    contexts_next no_context_in_field c.args.fields.now c.loop-field.field-index c.field-item.result (omega arith)
    c.field-item.is _ _ _
    c.loop-field.invariant.contexts c.value.ensures.contexts

pub returns-in_err-push-clause-contexts : goal.returns-in_err-push-clause-contexts
returns-in_err-push-clause-contexts c =
    contexts_next no_context_in_field c.args.fields.now c.loop-field.field-index c.field-item.result (omega arith)
    c.field-item.is _ _ _
    c.loop-field.invariant.contexts c.value.ensures.contexts
