use Rattle.std.proofs.Common.{List, sym, ap, subst, ◌∙◌}
use Rattle.std.specs.Prelude.{slice_get, option_and_then}
use Rattle.std.specs.Option.{option_copied}
use Rattle.pc_numbers.specs.declared.entity_index.EntityIndex.{EntityIndex}
use Rattle.pc_entity.specs.declared.string_pool.Atom.{Atom}
use Rattle.pc_types.specs.declared.module_record.ModuleRecord.{ModuleRecord}
use Rattle.pc_types.specs.Record.{export_of}
use Rattle.pc_inline_names.specs.Named.{Named}
use Rattle.pc_inline_names.specs.Numbers.{IsNumber, numbered_value}
use Rattle.pc_inline_names.proofs.LookupLemmas.{found_numbered}
use Rattle.pc_inline_names.proofs.program_names.ProgramNames.module_export.Goals as goal

pub returns-in-Some : goal.returns-in-Some
returns-in-Some c = λ name is.
    let n = c.args.core_module.0 in
    let number = c.args.number in
    let at = sym (ap option_copied c.in-Some.is) ∙ c.at.ensures
    ∙ ap (λ (maps : List (List (Atom × EntityIndex))). slice_get maps n) c.as_slice.ensures in
    c.copied.ensures ∙ c.get.ensures
    ∙ ap (option_and_then (numbered_value number)) at
    ∙ found_numbered c.self.inside.texts (λ (r : ModuleRecord). r.exports) c.self.inside.program.now.modules
    c.self.inside.tables.exports n number name c.self.invariant.1.exports
    (subst (λ (s : Named). IsNumber s.texts number name) (sym c.self.view_is) is)
    ∙ ap (λ (s : Named). option_and_then (λ r. export_of r name) (slice_get s.modules n)) c.self.view_is

pub returns-in-None : goal.returns-in-None
returns-in-None c = λ name is.
    let n = c.args.core_module.0 in
    let number = c.args.number in
    let at = sym (ap option_copied c.in-None.is) ∙ c.at.ensures
    ∙ ap (λ (maps : List (List (Atom × EntityIndex))). slice_get maps n) c.as_slice.ensures in
    ap (option_and_then (numbered_value number)) at
    ∙ found_numbered c.self.inside.texts (λ (r : ModuleRecord). r.exports) c.self.inside.program.now.modules
    c.self.inside.tables.exports n number name c.self.invariant.1.exports
    (subst (λ (s : Named). IsNumber s.texts number name) (sym c.self.view_is) is)
    ∙ ap (λ (s : Named). option_and_then (λ r. export_of r name) (slice_get s.modules n)) c.self.view_is
