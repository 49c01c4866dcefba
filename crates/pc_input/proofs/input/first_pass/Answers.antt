use Rattle.serde_json.specs.Data.{object}
use Rattle.pc_input.specs.Root.{first_of}
use Rattle.pc_input.proofs.Taken.{OfText-from_Reads}
use Rattle.pc_input.proofs.input.first_pass.Goals as goal

pub returns-in-Ok-object_of : goal.returns-in-Ok-object_of
returns-in-Ok-object_of c =
    let t = c.in-Ok-object_of.ensures c.args.text.now c.in-Ok.ensures.ok in
    OfText-from_Reads first_of c.args.text.now (object t.0) c.read_kept.result t.1 (c.read_kept.ensures t.0 t.2)
