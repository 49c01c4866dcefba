use Rattle.pc_input.proofs.Inputs.{no_payloads, with_payloads}
use Rattle.pc_input.proofs.tree.input_from.Goals as goal

pub returns-in-Ok : goal.returns-in-Ok
returns-in-Ok g c =
    with_payloads (g.F.Form.rules c.args.form.now) (g.V.Tree.means c.args.value.now) c.in-Ok.list c.members.result
    c.in-Ok.ensures c.members.ensures

pub returns-in-Err : goal.returns-in-Err
returns-in-Err g c =
    no_payloads (g.F.Form.rules c.args.form.now) (g.V.Tree.means c.args.value.now) c.in-Err.e c.in-Err.ensures
