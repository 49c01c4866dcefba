use Rattle.pc_inline_exports.proofs.CountedLemmas.{counted_as, counts_begin, counts_end, counts_fail, counts_next}
use Rattle.pc_inline_exports.proofs.CountedLemmas.{counts_none, counts_unbegun}
use Rattle.pc_inline_exports.proofs.count.count_exports.Goals as goal
use Rattle.pc_inline_exports.proofs.count.count_exports.Goals.{in-Some+in_ok-nodes, in_default}

pub loop-export-init : goal.loop-export-init
loop-export-init c = counts_begin _ _ _ _ _ _ c.requires.below

pub loop-export-preserved : goal.loop-export-preserved
loop-export-preserved c =
    let far = c.loop-export.invariant in
    elim c.match-export_count.branch [
      | in-Some+in_ok-nodes w ↦
          counted_as _ _ _ _ _ _ _ _ _ _ _ w.number-is w.nodes-is
          (counts_next _ _ _ _ _ _ _ _ _ far _ c.loop-export-test.true c.export-item.is _ c.export_count.ensures _
          w.in-Some.is _ w.in_ok-nodes.ensures)
      | in_default w ↦
          counted_as _ _ _ _ _ _ _ _ _ _ _ w.number-is w.nodes-is
          (counts_none _ _ _ _ _ _ _ _ _ far _ c.loop-export-test.true c.export-item.is _ c.export_count.ensures
          w.in_default.is)
    ]

pub returns : goal.returns
returns c = counts_end _ _ _ _ _ _ _ _ _ c.loop-export.invariant c.loop-export-test.false

pub returns-in_err-counts : goal.returns-in_err-counts
returns-in_err-counts c = counts_unbegun _ _ _ _ _ _ c.requires.below _ c.from_residual.ensures.1

pub returns-in_err-nodes : goal.returns-in_err-nodes
returns-in_err-nodes c =
    counts_fail _ _ _ _ _ _ _ _ _ c.loop-export.invariant _ c.loop-export-test.true c.export-item.is _
    c.export_count.ensures _ c.in-Some.is _ c.in_err-nodes.ensures _ c.from_residual-in_err-nodes.ensures.1
