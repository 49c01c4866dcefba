use Rattle.serde_json.specs.Data.{object}
use Rattle.pc_input.specs.Input.{input_from}
use Rattle.pc_input.proofs.Taken.{OfText-from_Reads}
use Rattle.pc_input.proofs.input.second_pass.Goals as goal

pub returns-in-Ok-object_of : goal.returns-in-Ok-object_of
returns-in-Ok-object_of g c =
    let t = c.in-Ok-object_of.ensures c.args.text.now c.in-Ok.ensures.ok in
    OfText-from_Reads (input_from (g.F.Form.rules c.args.form.now)) c.args.text.now (object t.0) c.read_members.result
    t.1 (c.read_members.ensures t.0 t.2)
