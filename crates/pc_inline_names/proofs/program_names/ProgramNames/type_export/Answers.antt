use Rattle.std.proofs.Common.{◌∙◌}
use Rattle.std.specs.Prelude.{None, Some, slice_get}
use Rattle.pc_inline_names.proofs.TableLemmas.{entry_place}
use Rattle.pc_inline_names.proofs.program_names.ProgramNames.type_export.Goals as goal

pub returns-in-Some : goal.returns-in-Some
returns-in-Some c = λ name is.
    c.copied.ensures ∙ c.get.ensures
    ∙ entry_place c.args.self.now.texts c.are_distinct.ensures (slice_get c.args.self.now.table.types c.args.entry)
    (Some c.in-Some.numbers.now) c.args.number name c.in-Some.ensures is

pub returns-in-None : goal.returns-in-None
returns-in-None c = λ name is.
    entry_place c.args.self.now.texts c.are_distinct.ensures (slice_get c.args.self.now.table.types c.args.entry) None
    c.args.number name c.in-None.ensures is
