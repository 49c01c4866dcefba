use Rattle.std.proofs.Common.{refl, subst, sym}
use Rattle.pc_types_convert.specs.Needed.{AreNeeded}
use Rattle.pc_types_convert.specs.Plain.{Layers}
use Rattle.pc_types_lists.proofs.ErrorLemmas.{passed}
use Rattle.pc_types_builder.proofs.AskedLemmas.{asked_none}
use Rattle.pc_types_builder.proofs.CountLemmas.{additions_are_few, full_before}
use Rattle.pc_types_builder.proofs.steps.entry_with.Goals as goal

pub convert_needed-outcome-requires-clause-needed : goal.convert_needed-outcome-requires-clause-needed
convert_needed-outcome-requires-clause-needed c =
    subst (AreNeeded c.args.table.now c.args.converted.now.all c.args.n) (sym c.as_slice.ensures.value)
    (subst (λ (done : Layers). AreNeeded c.args.table.now done.all c.args.n c.in_ok-order.order.items) c.done.ensures
    c.in_ok-order.ensures)

pub returns-in_err-order-clause-adds : goal.returns-in_err-order-clause-adds
returns-in_err-order-clause-adds c = asked_none c.args.table.now c.args.n _ _ refl

pub returns-in_err-outcome-clause-few : goal.returns-in_err-outcome-clause-few
returns-in_err-outcome-clause-few c =
    additions_are_few c.args.table.now c.args.n _ _ c.types_are_distinct.ensures c.convert_needed-outcome.ensures.grows
    c.convert_needed-outcome.ensures.adds

pub returns-in_err-outcome-clause-before : goal.returns-in_err-outcome-clause-before
returns-in_err-outcome-clause-before c =
    let e = c.from_residual-in_err-outcome in
    passed e.result c.in_err-outcome.field-0.0 e.ensures.1
    (λ q. full_before c.args.table.now c.args.n _ _ c.types_are_distinct.ensures c.convert_needed-outcome.ensures.grows
    c.convert_needed-outcome.ensures.adds (c.in_err-outcome.ensures.full q).full)

pub returns-clause-few : goal.returns-clause-few
returns-clause-few c =
    additions_are_few c.args.table.now c.args.n _ _ c.types_are_distinct.ensures c.convert_needed-outcome.ensures.grows
    c.convert_needed-outcome.ensures.adds
