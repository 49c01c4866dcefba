use Rattle.pc_types_convert.specs.Adds.{no_context_in_val}
use Rattle.pc_types_convert.proofs.AddsLemmas.{contexts_next}
use Rattle.pc_types_lists.proofs.ErrorLemmas.{passed_on}
use Rattle.std.proofs.Common.{arith, get_or}
use Rattle.std.proofs.lemmas.List.{get_or_default}
use Rattle.pc_types.specs.declared.parsed.PrimType.TheVariants.{Bool}
use Rattle.pc_types.specs.declared.parsed.ValType.TheVariants.{Prim}
use Rattle.pc_types_convert.specs.Parts.{ValIs}
use Rattle.pc_types_lists.proofs.Growth.{grows_trans}
use Rattle.pc_types_lists.proofs.ZipLemmas.{zip_here}
use Rattle.pc_types_convert.proofs.PartLemmas.{val_grows, zip_step}
use Rattle.pc_types_convert.proofs.defined.value_types.Goals as goal

pub returns-in_err-value-clause-grows : goal.returns-in_err-value-clause-grows
returns-in_err-value-clause-grows c =
    grows_trans _ _ _ c.loop-v.invariant.grows c.value.ensures.grows

pub returns-in_err-push-clause-grows : goal.returns-in_err-push-clause-grows
returns-in_err-push-clause-grows c =
    grows_trans _ _ _ c.loop-v.invariant.grows c.value.ensures.grows

pub loop-v-preserved : goal.loop-v-preserved
loop-v-preserved c =
    let l = c.loop-v in
    let vs = c.args.vs.now in
    let v = get_or vs l.v-index (Prim Bool) in
    let s = c.args.done.now in
    let now = c.value.ensures.grows in
    record {
      are =
          zip_step (ValIs l.interned s) (ValIs c.value.new.interned s) (val_grows _ _ now s) vs _ _ l.v-index v
          c.in_ok-value.field-0 (omega arith) (get_or_default vs l.v-index (Prim Bool) v c.loop-v-test.true)
          l.invariant.are c.in_ok-value.ensures.is c.in_ok-push.ensures.ok;
      grows = grows_trans _ _ _ l.invariant.grows now;
      contexts = contexts_next no_context_in_val c.args.vs.now l.v-index v (omega arith) (get_or_default vs l.v-index
          (Prim Bool) v c.loop-v-test.true) _ _ _
          l.invariant.contexts c.value.ensures.contexts;
    }

pub returns-in_err-value-clause-full : goal.returns-in_err-value-clause-full
returns-in_err-value-clause-full c =
    let vs = c.args.vs.now in
    let i = c.loop-v.v-index in
    let v = get_or vs i (Prim Bool) in
    passed_on c.from_residual.result c.in_err-value.field-0.0 _ _ _ c.from_residual.ensures.1
    c.in_err-value.ensures.full
    (λ next g is q. zip_here (ValIs next c.args.done.now) vs q.0 i v (omega arith)
    (get_or_default vs i (Prim Bool) v c.loop-v-test.true) q.1)

pub returns-in_err-value-clause-contexts : goal.returns-in_err-value-clause-contexts
returns-in_err-value-clause-contexts c =
    contexts_next no_context_in_val c.args.vs.now c.loop-v.v-index (get_or c.args.vs.now c.loop-v.v-index (Prim
    Bool)) (omega arith) (get_or_default c.args.vs.now c.loop-v.v-index (Prim Bool) _ c.loop-v-test.true) _ _ _
    c.loop-v.invariant.contexts c.value.ensures.contexts

pub returns-in_err-push-clause-contexts : goal.returns-in_err-push-clause-contexts
returns-in_err-push-clause-contexts c =
    contexts_next no_context_in_val c.args.vs.now c.loop-v.v-index (get_or c.args.vs.now c.loop-v.v-index (Prim
    Bool)) (omega arith) (get_or_default c.args.vs.now c.loop-v.v-index (Prim Bool) _ c.loop-v-test.true) _ _ _
    c.loop-v.invariant.contexts c.value.ensures.contexts
