use Rattle.pc_inline_exports.proofs.NamedLemmas.{exports_named, exports_nothing, exports_refused, exports_unfed}
use Rattle.pc_inline_exports.proofs.NamedLemmas.{exports_unnamed, reached_as}
use Rattle.pc_inline_exports.proofs.exports.export_node.Goals as goal

pub returns-in_err-found : goal.returns-in_err-found
returns-in_err-found c = exports_nothing _ _ _ _ _ _ _ c.from_residual.ensures.1

pub returns-in-Err : goal.returns-in-Err
returns-in-Err c =
    exports_refused _ _ _ _ _ _ _ _ (reached_as _ _ _ _ _ _ _ c.in_ok-found.ensures.definition c.reach_node.ensures) _
    c.in-Err.is _ c.error_at.ensures

pub returns-in_err-data_ : goal.returns-in_err-data_
returns-in_err-data_ c =
    exports_unfed _ _ _ _ _ _ _ _ (reached_as _ _ _ _ _ _ _ c.in_ok-found.ensures.definition c.reach_node.ensures) _
    c.from_residual-in_err-data_.ensures.1

pub returns-in_err-name : goal.returns-in_err-name
returns-in_err-name c =
    exports_unfed _ _ _ _ _ _ _ _ (reached_as _ _ _ _ _ _ _ c.in_ok-found.ensures.definition c.reach_node.ensures) _
    c.from_residual-in_err-name.ensures.1

pub returns-in_err-push_export : goal.returns-in_err-push_export
returns-in_err-push_export c =
    exports_unnamed _ _ _ _ _ _ _ _ (reached_as _ _ _ _ _ _ _ c.in_ok-found.ensures.definition c.reach_node.ensures) _
    c.in_err-push_export.ensures.err _ c.from_residual-in_err-push_export.ensures.1

pub returns : goal.returns
returns c =
    exports_named _ _ _ _ _ _ _ _ (reached_as _ _ _ _ _ _ _ c.in_ok-found.ensures.definition c.reach_node.ensures) _
    c.in-Ok.is c.requires.is _ _ c.in_ok-name.ensures c.in_ok-data_.ensures _ c.push_export.ensures.rest
    c.in_ok-push_export.ensures.ok c.push_export.ensures.grows c.push_export.ensures.ordered
