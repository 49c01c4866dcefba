use Rattle.std.proofs.Common.{All, subst}
use Rattle.pc_dfg_linearize.specs.Arguments.{OnlyFromThese}
use Rattle.pc_dfg_finish.specs.Exports.{IsExportable, in_exports}
use Rattle.pc_dfg_finish.proofs.FurtherLemmas.{can_export, exportable_next, further_then, lent_all, lent_at}
use Rattle.pc_dfg_finish.proofs.OnlyLemmas.{only_next}
use Rattle.pc_dfg_finish.proofs.OutgrownLemmas.{outgrows_before}
use Rattle.pc_dfg_finish.proofs.exports.number_items.Goals as goal

pub number_item-requires-clause-can : goal.number_item-requires-clause-can
number_item-requires-clause-can c =
    let g = c.args.graph.now in
    let i = c.loop-item.item-index in
    can_export g c.requires.ordered c.requires.grouped i c.item-item.result
    (lent_at c.as_slice-item-items.result.now g.export_items c.as_slice-item-items.ensures i c.item-item.result
    c.loop-item-test.true c.item-item.is)

pub loop-item-preserved : goal.loop-item-preserved
loop-item-preserved c =
    let g = c.args.graph.now in
    let i = c.loop-item.item-index in
    let e = c.item-item.result in
    let at = lent_at c.as_slice-item-items.result.now g.export_items c.as_slice-item-items.ensures i e
    c.loop-item-test.true c.item-item.is in
    let middle = c.loop-item.finish in
    let new = c.number_item.new.finish in
    let step = c.in_ok-number_item.ensures in (
      further_then g c.args.finish.now middle new c.loop-item.invariant.0 step.further,
      exportable_next g middle new step.further.continues g.export_items i e at c.loop-item.invariant.1 step.here,
      only_next g c.args.finish.now middle new g.export_items i e at c.loop-item.invariant.2 step.only,
    )

pub returns-clause-here : goal.returns-clause-here
returns-clause-here c =
    let g = c.args.graph.now in
    subst (All (IsExportable g c.loop-item.finish))
    (lent_all c.as_slice-item-items.result.now g.export_items c.as_slice-item-items.ensures c.loop-item.item-index
    c.loop-item-test.false) c.loop-item.invariant.1

pub returns-clause-only : goal.returns-clause-only
returns-clause-only c =
    let g = c.args.graph.now in
    subst (λ es. OnlyFromThese g c.args.finish.now c.loop-item.finish (in_exports g es))
    (lent_all c.as_slice-item-items.result.now g.export_items c.as_slice-item-items.ensures c.loop-item.item-index
    c.loop-item-test.false) c.loop-item.invariant.2

pub returns-in_err-number_item-clause-full : goal.returns-in_err-number_item-clause-full
returns-in_err-number_item-clause-full c is =
    let too_many = rw is at c.from_residual.ensures.1 in
    let full = c.in_err-number_item.ensures.full (cc too_many) in
    outgrows_before c.args.graph.now c.args.finish.now c.loop-item.finish c.loop-item.invariant.0.continues full
