use Rattle.std.proofs.Common.{sym, ap, ◌∙◌}
use Rattle.std.specs.Prelude.{slice_get}
use Rattle.pc_types_walk.specs.Names.{export_place}
use Rattle.pc_inline_names.specs.Named.{Named}
use Rattle.pc_inline_names.proofs.TableLemmas.{entry_at, entry_nowhere, inner}
use Rattle.pc_inline_names.proofs.program_names.ProgramNames.place.Goals as goal

pub returns-in-None : goal.returns-in-None
returns-in-None c =
    let n = c.args.entry in
    let names = c.self.inside.texts in
    let types = c.self.inside.table.now.types in
    let name = c.args.name.now in
    sym (ap (λ (s : Named). export_place s.table n name) (sym c.self.view_is)
    ∙ entry_nowhere names (slice_get types n) (inner (slice_get c.self.inside.tables.types n)) name
    (entry_at names types c.self.inside.tables.types n c.self.invariant.1.types) c.in-None.ensures.absent)
