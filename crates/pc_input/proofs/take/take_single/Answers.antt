use Rattle.std.proofs.Common.{Some, option_map, sym, ap, ◌∙◌}
use Rattle.pc_input_values.specs.Rules.{single}
use Rattle.pc_input.proofs.Payloads.{made_err}
use Rattle.pc_input.proofs.take.take_single.Goals as goal

pub returns-in-Ok-single : goal.returns-in-Ok-single
returns-in-Ok-single g c =
    let t = c.in-Ok.ensures in
    (t.0, t.1, ap (option_map single) t.2 ∙ ap Some (sym c.in-Ok-single.ensures))

pub returns-in-Err : goal.returns-in-Err
returns-in-Err g c =
    made_err single (g.T.ReadEntry.shape (g.F.Form.rules c.args.form.now)) c.args.depth c.args.reader.now
    c.take.new.reader c.in-Err.e c.in-Err.ensures
