use Rattle.std.proofs.Common.{List, sym, ap, subst, ◌∙◌}
use Rattle.std.specs.Prelude.{None, Some, option_and_then, slice_get}
use Rattle.pc_entity.specs.declared.string_pool.Atom.{Atom}
use Rattle.pc_types_walk.specs.Names.{export_names}
use Rattle.pc_inline_names.specs.Both.{Both}
use Rattle.pc_inline_names.proofs.AddedLemmas.{Numbered}
use Rattle.pc_inline_names.proofs.TableLemmas.{entry_export}
use Rattle.pc_inline_names.proofs.program_names.ProgramNames.export_number.Goals as goal

pub returns-in-Some : goal.returns-in-Some
returns-in-Some c =
    let names = c.args.self.now.texts in
    let entry = slice_get c.args.self.now.table.types c.args.entry in
    let place = c.args.place in
    subst (Both (Numbered names) (option_and_then (λ e. slice_get (export_names e) place) entry))
    (sym (c.copied.ensures ∙ c.at.ensures ∙ ap (λ (ns : List Atom). slice_get ns place) c.as_slice.ensures))
    (entry_export names entry (Some c.in-Some.numbers.now) place c.in-Some.ensures)

pub returns-in-None : goal.returns-in-None
returns-in-None c =
    entry_export c.args.self.now.texts (slice_get c.args.self.now.table.types c.args.entry) None c.args.place
    c.in-None.ensures
