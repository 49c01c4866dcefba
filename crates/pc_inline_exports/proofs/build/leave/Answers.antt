use Rattle.std.proofs.Common.{refl}
use Rattle.pc_inline_exports.proofs.GoesLemmas.{leaves_as, puts_ok, puts_unfed, puts_unmade}
use Rattle.pc_inline_exports.proofs.build.leave.Goals as goal

pub returns-in_err-item : goal.returns-in_err-item
returns-in_err-item c =
    leaves_as _ _ c.args.stack.now _ _ _ _ _ _ c.replace-child.ensures.value c.replace-child.ensures.after
    c.close.ensures
    (puts_unmade _ _ _ _ _ _ c.in_err-item.was _ c.from_residual.ensures.0 c.from_residual.ensures.1) refl refl

pub returns-in_err-put : goal.returns-in_err-put
returns-in_err-put c =
    leaves_as _ _ c.args.stack.now _ _ _ _ _ _ c.replace-child.ensures.value c.replace-child.ensures.after
    c.close.ensures
    (puts_unfed _ _ _ _ _ _ c.from_residual-in_err-put.ensures.0 c.from_residual-in_err-put.ensures.1) refl refl

pub returns : goal.returns
returns c =
    leaves_as _ _ c.args.stack.now _ _ _ _ _ _ c.replace-child.ensures.value c.replace-child.ensures.after
    c.close.ensures (puts_ok _ _ _ _ _ _ c.in_ok-item.was c.in_ok-put.ensures) refl refl
