use Rattle.std.proofs.Common.{List, Option, sym, ap, subst, ◌∙◌}
use Rattle.std.specs.Prelude.{None, slice_get}
use Rattle.std.specs.Option.{option_copied}
use Rattle.pc_inline_names.specs.declared.types.TypeNumbers.{TypeNumbers}
use Rattle.pc_inline_names.specs.Named.{Named}
use Rattle.pc_inline_names.specs.Tables.{EntryHas}
use Rattle.pc_inline_names.proofs.TableLemmas.{entry_at, inner}
use Rattle.pc_inline_names.proofs.program_names.ProgramNames.entry.Goals as goal

pub returns-in-Some : goal.returns-in-Some
returns-in-Some c =
    let n = c.args.entry in
    let names = c.self.inside.texts in
    let types = c.self.inside.table.now.types in
    let at = sym (ap option_copied c.in-Some.is) ∙ c.at.ensures
    ∙ ap (λ (xs : List (Option TypeNumbers)). slice_get xs n) c.as_slice.ensures in
    subst (λ (s : Named). EntryHas s.texts (slice_get s.table.types n) (option_copied c.get.result)) c.self.view_is
    (subst (EntryHas names (slice_get types n)) (sym (c.get.ensures ∙ ap inner at))
    (entry_at names types c.self.inside.tables.types n c.self.invariant.1.types))

pub returns-in-None : goal.returns-in-None
returns-in-None c =
    let n = c.args.entry in
    let names = c.self.inside.texts in
    let types = c.self.inside.table.now.types in
    let at = sym (ap option_copied c.in-None.is) ∙ c.at.ensures
    ∙ ap (λ (xs : List (Option TypeNumbers)). slice_get xs n) c.as_slice.ensures in
    subst (λ (s : Named). EntryHas s.texts (slice_get s.table.types n) None) c.self.view_is
    (subst (EntryHas names (slice_get types n)) (sym (ap inner at))
    (entry_at names types c.self.inside.tables.types n c.self.invariant.1.types))
