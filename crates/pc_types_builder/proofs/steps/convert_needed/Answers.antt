use Rattle.std.proofs.Common.{arith}
use Rattle.pc_types_lists.proofs.ErrorLemmas.{passed_on}
use Rattle.pc_types_lists.proofs.Growth.{grows_trans}
use Rattle.pc_types_builder.proofs.AskedLemmas.{asked_both, next_asked}
use Rattle.pc_types_builder.proofs.RefusalLemmas.{next_there}
use Rattle.pc_types_builder.proofs.StepLemmas.{asked_done, done_next, parts_done}
use Rattle.pc_types_builder.proofs.steps.convert_needed.Goals as goal

pub step-requires-clause-parts : goal.step-requires-clause-parts
step-requires-clause-parts c =
    let l = c.loop-k in
    parts_done c.args.table.now c.requires.sound _ l.converted.all _ _ c.requires.needed l.k-index
    (omega (arith, c.loop-k-test.true)) l.invariant.so_far l.invariant.kept

pub loop-k-preserved : goal.loop-k-preserved
loop-k-preserved c =
    let l = c.loop-k in
    record {
      converted = c.step.ensures.converted;
      so_far = done_next l.converted.all c.step.new.converted.all c.args.order.now l.k-index (omega (arith, c.loop-k-test.true))
          c.step.ensures.kept l.invariant.so_far c.in_ok-step.ensures.done;
      kept = λ m h. c.step.ensures.kept m (l.invariant.kept m h);
      grows = grows_trans _ _ _ l.invariant.grows c.step.ensures.grows;
      within = omega (arith, c.loop-k-test.true);
      adds = asked_both _ _ _ _ _ c.step.ensures.grows l.invariant.adds
          (next_asked c.args.table.now c.requires.sound _ _ _ c.requires.needed l.k-index
          (omega (arith, c.loop-k-test.true)) _ _ _ l.invariant.converted.all c.step.ensures.grows c.step.ensures.adds);
    }

pub returns-in_err-step-clause-grows : goal.returns-in_err-step-clause-grows
returns-in_err-step-clause-grows c = grows_trans _ _ _ c.loop-k.invariant.grows c.step.ensures.grows

pub returns-in_err-step-clause-full : goal.returns-in_err-step-clause-full
returns-in_err-step-clause-full c =
    let l = c.loop-k in
    passed_on c.from_residual.result c.in_err-step.field-0.0 _ _ _ c.from_residual.ensures.1 c.in_err-step.ensures.full
    (λ next g is q.
    next_there c.args.table.now c.requires.sound _ next (grows_trans _ _ next c.step.ensures.grows g) is _ l.converted.all
    c.args.n _ c.requires.needed l.k-index (omega (arith, c.loop-k-test.true)) l.invariant.converted.all
    l.invariant.so_far l.invariant.kept q.0 q.1)

pub returns-clause-done : goal.returns-clause-done
returns-clause-done c =
    asked_done c.args.table.now _ _ c.args.n _ c.requires.needed c.loop-k.k-index (omega (arith, c.loop-k-test.false))
    c.loop-k.invariant.so_far c.loop-k.invariant.kept

pub returns-in_err-step-clause-adds : goal.returns-in_err-step-clause-adds
returns-in_err-step-clause-adds c =
    asked_both _ _ _ _ _ c.step.ensures.grows c.loop-k.invariant.adds
    (next_asked c.args.table.now c.requires.sound _ _ _ c.requires.needed c.loop-k.k-index
    (omega (arith, c.loop-k-test.true)) _ _ _ c.loop-k.invariant.converted.all c.step.ensures.grows c.step.ensures.adds)
