use Rattle.std.proofs.Common.{refl}
use Rattle.pc_inline_exports.proofs.ExportAllLemmas.{exports_begin, exports_end, exports_fail, exports_more}
use Rattle.pc_inline_exports.proofs.ExportAllLemmas.{exports_none}
use Rattle.pc_inline_exports.proofs.ExportAllLemmas.{exports_unfound, found_absent, found_reachable, root_here}
use Rattle.pc_inline_exports.proofs.ExportAllLemmas.{so_far_as}
use Rattle.pc_inline_exports.proofs.ExportAllLemmas.{ok_none, ok_some}
use Rattle.pc_inline_exports.proofs.exports.make_exports.Goals as goal
use Rattle.pc_inline_exports.proofs.exports.make_exports.Goals.{in-Some+in_ok-export_node}
use Rattle.pc_inline_exports.proofs.exports.make_exports.Goals.{in_default}

pub loop-export-init : goal.loop-export-init
loop-export-init c = exports_begin _ _ _ _ _ c.requires.root c.requires.unexported

pub loop-export-preserved : goal.loop-export-preserved
loop-export-preserved c =
    let far = c.loop-export.invariant in
    elim c.match-found.branch [
      | in-Some+in_ok-export_node w ↦
          so_far_as _ _ _ _ _ _ _ _ _ _ _ _ w.number-is w.state-is refl
          (exports_more _ _ _ _ _ _ _ _ _ far _ c.loop-export-test.true c.export-item.is _ _ _ c.exported.ensures _
          (ok_some _ _ _ c.in-Ok.is w.in-Some.is) _ w.in_ok-export_node.ensures)
      | in_default w ↦
          so_far_as _ _ _ _ _ _ _ _ _ _ _ _ w.number-is w.state-is refl
          (exports_none _ _ _ _ _ _ _ _ _ far _ c.loop-export-test.true c.export-item.is _ _ _ c.exported.ensures
          (ok_none _ _ c.in-Ok.is w.in_default.is))
    ]

pub exported-requires-clause-root : goal.exported-requires-clause-root
exported-requires-clause-root c =
    root_here _ _ _ _ _ _ _ _ _ c.loop-export.invariant _ c.loop-export-test.true c.export-item.is

pub export_node-requires-clause-is : goal.export_node-requires-clause-is
export_node-requires-clause-is c =
    found_reachable _ _ _ _ _ _ _ _ _ c.loop-export.invariant _ c.loop-export-test.true c.export-item.is _ _ _
    c.exported.ensures _ (ok_some _ _ _ c.in-Ok.is c.in-Some.is)

pub export_node-requires-clause-absent : goal.export_node-requires-clause-absent
export_node-requires-clause-absent c =
    found_absent _ _ _ _ _ _ _ _ _ c.loop-export.invariant _ c.loop-export-test.true c.export-item.is _ _ _
    c.exported.ensures _ (ok_some _ _ _ c.in-Ok.is c.in-Some.is) c.requires.distinct

pub returns-in-Err : goal.returns-in-Err
returns-in-Err c =
    exports_unfound _ _ _ _ _ _ _ _ _ c.loop-export.invariant _ c.loop-export-test.true c.export-item.is _ _ _
    c.exported.ensures _ c.in-Err.is _ c.error_at.ensures

pub returns-in_err-export_node : goal.returns-in_err-export_node
returns-in_err-export_node c =
    exports_fail _ _ _ _ _ _ _ _ _ c.loop-export.invariant _ c.loop-export-test.true c.export-item.is _ _ _
    c.exported.ensures _ (ok_some _ _ _ c.in-Ok.is c.in-Some.is) _ _ _ c.in_err-export_node.was c.export_node.ensures _
    c.from_residual.ensures.1

pub returns : goal.returns
returns c = exports_end _ _ _ _ _ _ _ _ _ c.loop-export.invariant c.loop-export-test.false
