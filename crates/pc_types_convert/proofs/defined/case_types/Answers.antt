use Rattle.pc_types_convert.specs.Adds.{no_context_in_case}
use Rattle.pc_types_convert.proofs.AddsLemmas.{contexts_next}
use Rattle.pc_types_lists.proofs.ErrorLemmas.{passed_on}
use Rattle.std.proofs.Common.{arith, sym}
use Rattle.pc_types_convert.specs.Parts.{CaseIs}
use Rattle.pc_types_lists.proofs.Growth.{grows_trans}
use Rattle.pc_types_lists.proofs.ZipLemmas.{zip_here}
use Rattle.pc_types_convert.proofs.PartLemmas.{case_grows, zip_step}
use Rattle.pc_types_convert.proofs.defined.case_types.Goals as goal

pub returns-in_err-maybe_value-clause-grows : goal.returns-in_err-maybe_value-clause-grows
returns-in_err-maybe_value-clause-grows c =
    grows_trans _ _ _ c.loop-case.invariant.grows c.maybe_value.ensures.grows

pub returns-in_err-push-clause-grows : goal.returns-in_err-push-clause-grows
returns-in_err-push-clause-grows c =
    grows_trans _ _ _ c.loop-case.invariant.grows c.maybe_value.ensures.grows

pub loop-case-preserved : goal.loop-case-preserved
loop-case-preserved c =
    let l = c.loop-case in
    let s = c.args.done.now in
    let now = c.maybe_value.ensures.grows in
    record {
      are =
          zip_step (CaseIs l.interned s) (CaseIs c.maybe_value.new.interned s) (case_grows _ _ now s)
          c.args.cases.now _ _ l.case-index c.case-item.result (c.in_ok-name.name, c.in_ok-maybe_value.field-0)
          (omega arith) c.case-item.is l.invariant.are
          (sym c.in_ok-name.ensures, c.in_ok-maybe_value.ensures.is) c.in_ok-push.ensures.ok;
      grows = grows_trans _ _ _ l.invariant.grows now;
      contexts = contexts_next no_context_in_case c.args.cases.now l.case-index c.case-item.result (omega arith)
          c.case-item.is _ _ _
          l.invariant.contexts c.maybe_value.ensures.contexts;
    }

pub returns-in_err-maybe_value-clause-full : goal.returns-in_err-maybe_value-clause-full
returns-in_err-maybe_value-clause-full c =
    passed_on c.from_residual-in_err-maybe_value.result c.in_err-maybe_value.field-0.0 _ _ _
    c.from_residual-in_err-maybe_value.ensures.1 c.in_err-maybe_value.ensures.full
    (λ next g is q.
    let here = zip_here (CaseIs next c.args.done.now) c.args.cases.now q.0 c.loop-case.case-index c.case-item.result
    (omega arith) c.case-item.is q.1 in
    (here.0.1, here.1.1))

pub returns-in_err-maybe_value-clause-contexts : goal.returns-in_err-maybe_value-clause-contexts
returns-in_err-maybe_value-clause-contexts c =
    contexts_next no_context_in_case c.args.cases.now c.loop-case.case-index c.case-item.result (omega arith)
    c.case-item.is _ _ _
    c.loop-case.invariant.contexts c.maybe_value.ensures.contexts

pub returns-in_err-push-clause-contexts : goal.returns-in_err-push-clause-contexts
returns-in_err-push-clause-contexts c =
    contexts_next no_context_in_case c.args.cases.now c.loop-case.case-index c.case-item.result (omega arith)
    c.case-item.is _ _ _
    c.loop-case.invariant.contexts c.maybe_value.ensures.contexts
