use Rattle.pc_input_tokens.specs.Borrowed.{data_in}
use Rattle.pc_input_tokens.specs.Takes.{data_at}
use Rattle.pc_input.specs.Module.{core_module}
use Rattle.pc_input.proofs.Taken.{TakesAs-from_Reads}
use Rattle.pc_input.proofs.content.take_module.Goals as goal

pub returns-in-Ok : goal.returns-in-Ok
returns-in-Ok g c =
    TakesAs-from_Reads (core_module (g.F.Form.rules c.args.form.now)) (data_at c.args.depth c.args.reader.now)
    (data_in c.in-Ok.value) _ _
    c.in-Ok.ensures c.core_module.ensures
