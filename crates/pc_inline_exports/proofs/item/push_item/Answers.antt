use Rattle.pc_inline_exports.proofs.PushLemmas.{pushes_err, pushes_ok}
use Rattle.pc_inline_exports.proofs.item.push_item.Goals as goal

pub returns-in_err-push_export_item : goal.returns-in_err-push_export_item
returns-in_err-push_export_item c =
    let e = c.push_export_item.ensures in
    pushes_err c.args.state.now c.args.item _ e.rest e.grows e.ordered _ _ c.in_err-push_export_item.was e.full.0
    c.in_err-push_export_item.ensures.err _ c.from_residual.ensures.0 c.from_residual.ensures.1

pub returns : goal.returns
returns c =
    let e = c.push_export_item.ensures in
    pushes_ok c.args.state.now c.args.item _ e.rest e.grows e.ordered _ c.in_ok-push_export_item.ensures.key
    c.in_ok-push_export_item.ensures.ok
