use Rattle.std.proofs.Common.{List, ℕ, ap, ◌∙◌}
use Rattle.std.specs.Prelude.{None, Some, slice_get}
use Rattle.pc_inline_names.proofs.TableLemmas.{entry_name}
use Rattle.pc_inline_names.proofs.program_names.ProgramNames.module_name.Goals as goal

pub returns-in-Some : goal.returns-in-Some
returns-in-Some c =
    let place = c.args.place in
    c.at.ensures ∙ ap (λ (ns : List (List ℕ)). slice_get ns place) c.as_slice.ensures
    ∙ entry_name c.args.self.now.texts (slice_get c.args.self.now.table.types c.args.entry)
    (Some c.in-Some.numbers.now) place c.in-Some.ensures

pub returns-in-None : goal.returns-in-None
returns-in-None c =
    entry_name c.args.self.now.texts (slice_get c.args.self.now.table.types c.args.entry) None c.args.place
    c.in-None.ensures
