use Rattle.std.proofs.Common.{Some, option_map, sym, ap, ◌∙◌}
use Rattle.pc_input_values.specs.Rules.{section}
use Rattle.pc_input.proofs.Payloads.{made_err}
use Rattle.pc_input.proofs.content.take_entries.Goals as goal

pub returns-in-Ok : goal.returns-in-Ok
returns-in-Ok g c =
    let t = c.in-Ok.ensures in
    (t.0, t.1, ap (option_map g.T.SectionEntry.payload) t.2 ∙ ap Some (sym c.section.ensures))

pub returns-in-Err : goal.returns-in-Err
returns-in-Err g c =
    made_err g.T.SectionEntry.payload (section (g.F.Form.rules c.args.form.now)
    (g.T.ReadEntry.shape (g.F.Form.rules c.args.form.now))) c.args.depth c.args.reader.now c.take_section.new.reader
    c.in-Err.e c.in-Err.ensures
