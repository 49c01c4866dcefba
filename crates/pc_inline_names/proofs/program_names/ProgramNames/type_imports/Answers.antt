use Rattle.std.proofs.Common.{sym, subst}
use Rattle.std.specs.Prelude.{None, Some, option_and_then, slice_get}
use Rattle.pc_inline_names.specs.Both.{Both}
use Rattle.pc_inline_names.specs.Named.{imports_of}
use Rattle.pc_inline_names.specs.Numbers.{AreImportNumbers}
use Rattle.pc_inline_names.proofs.TableLemmas.{entry_imports}
use Rattle.pc_inline_names.proofs.program_names.ProgramNames.type_imports.Goals as goal

pub returns-in-Some : goal.returns-in-Some
returns-in-Some c =
    let names = c.args.self.now.texts in
    let entry = slice_get c.args.self.now.table.types c.args.entry in
    subst (Both (AreImportNumbers names) (option_and_then imports_of entry)) (sym c.as_ref.ensures.value)
    (entry_imports names entry (Some c.in-Some.numbers.now) c.in-Some.ensures)

pub returns-in-None : goal.returns-in-None
returns-in-None c =
    entry_imports c.args.self.now.texts (slice_get c.args.self.now.table.types c.args.entry) None c.in-None.ensures
