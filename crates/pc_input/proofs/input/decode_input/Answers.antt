use Rattle.pc_input.proofs.Inputs.{tree_of-refused, text-ok, text-err}
use Rattle.pc_input.proofs.input.decode_input.Goals as goal

pub returns-in-Ok-clause-ok : goal.returns-in-Ok-clause-ok
returns-in-Ok-clause-ok c =
    let cases = c.in-Ok.ensures.cases in
    text-ok c.args.bytes.now c.in-Ok.text.now cases.0 cases.1 c.input_of_text.result c.input_of_text.ensures

pub returns-in-Ok-clause-err : goal.returns-in-Ok-clause-err
returns-in-Ok-clause-err c =
    let cases = c.in-Ok.ensures.cases in
    text-err c.args.bytes.now c.in-Ok.text.now cases.0 cases.1 c.input_of_text.result c.input_of_text.ensures

pub returns-in-Err-clause-err : goal.returns-in-Err-clause-err
returns-in-Err-clause-err c = tree_of-refused c.args.bytes.now (λ utf8. absurd (c.in-Err.ensures.cases.0 utf8))
