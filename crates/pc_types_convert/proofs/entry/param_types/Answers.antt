use Rattle.pc_types_convert.specs.Adds.{no_context_in_field}
use Rattle.pc_types_convert.proofs.AddsLemmas.{contexts_next}
use Rattle.pc_types_lists.proofs.ErrorLemmas.{passed_on}
use Rattle.std.proofs.Common.{arith}
use Rattle.pc_types_convert.specs.Parts.{ValIs}
use Rattle.pc_types_lists.proofs.Growth.{grows_trans}
use Rattle.pc_types_lists.proofs.ZipLemmas.{zip_here}
use Rattle.pc_types_convert.proofs.PartLemmas.{val_grows, zip_step}
use Rattle.pc_types_convert.proofs.entry.param_types.Goals as goal

pub returns-in_err-value-clause-grows : goal.returns-in_err-value-clause-grows
returns-in_err-value-clause-grows c = grows_trans _ _ _ c.loop-param.invariant.grows c.value.ensures.grows

pub returns-in_err-push-clause-grows : goal.returns-in_err-push-clause-grows
returns-in_err-push-clause-grows c = grows_trans _ _ _ c.loop-param.invariant.grows c.value.ensures.grows

pub loop-param-preserved : goal.loop-param-preserved
loop-param-preserved c =
    let l = c.loop-param in
    let p = c.param-item in
    let ps = c.args.params.now in
    let s = c.args.done.now in
    let now = c.value.ensures.grows in
    record {
      are =
          zip_step (λ p w. ValIs l.interned s p.1 w) (λ p w. ValIs c.value.new.interned s p.1 w)
          (λ p w. val_grows _ _ now s p.1 w) ps _ _ l.param-index p.result c.in_ok-value.field-0 (omega arith) p.is
          l.invariant.are c.in_ok-value.ensures.is c.in_ok-push.ensures.ok;
      grows = grows_trans _ _ _ l.invariant.grows now;
      contexts = contexts_next no_context_in_field c.args.params.now l.param-index c.param-item.result (omega arith)
          c.param-item.is _ _ _
          l.invariant.contexts c.value.ensures.contexts;
    }

pub returns-in_err-value-clause-full : goal.returns-in_err-value-clause-full
returns-in_err-value-clause-full c =
    passed_on c.from_residual.result c.in_err-value.field-0.0 _ _ _ c.from_residual.ensures.1
    c.in_err-value.ensures.full
    (λ next g is q.
    zip_here (λ p w. ValIs next c.args.done.now p.1 w) c.args.params.now q.0 c.loop-param.param-index
    c.param-item.result (omega arith) c.param-item.is q.1)

pub returns-in_err-value-clause-contexts : goal.returns-in_err-value-clause-contexts
returns-in_err-value-clause-contexts c =
    contexts_next no_context_in_field c.args.params.now c.loop-param.param-index c.param-item.result (omega arith)
    c.param-item.is _ _ _
    c.loop-param.invariant.contexts c.value.ensures.contexts

pub returns-in_err-push-clause-contexts : goal.returns-in_err-push-clause-contexts
returns-in_err-push-clause-contexts c =
    contexts_next no_context_in_field c.args.params.now c.loop-param.param-index c.param-item.result (omega arith)
    c.param-item.is _ _ _
    c.loop-param.invariant.contexts c.value.ensures.contexts
