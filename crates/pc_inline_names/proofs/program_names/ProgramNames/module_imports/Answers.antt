use Rattle.std.proofs.Common.{List, sym, ap, subst, ◌∙◌}
use Rattle.std.specs.Prelude.{slice_get}
use Rattle.std.specs.Option.{option_copied}
use Rattle.pc_entity.specs.declared.string_pool.Atom.{Atom}
use Rattle.pc_inline_names.specs.Both.{Both}
use Rattle.pc_inline_names.specs.Named.{Named}
use Rattle.pc_inline_names.specs.Tables.{AreRecordNumbers}
use Rattle.pc_inline_names.proofs.ZipLemmas.{zip_at}
use Rattle.pc_inline_names.proofs.program_names.ProgramNames.module_imports.Goals as goal

pub returns : goal.returns
returns c =
    let n = c.args.core_module.0 in
    let names = c.self.inside.texts in
    let modules = c.self.inside.program.now.modules in
    let at = c.at.ensures ∙ ap (λ (xs : List (List (Atom × Atom))). slice_get xs n) c.as_slice.ensures in
    subst (λ (s : Named). Both (AreRecordNumbers s.texts) (slice_get s.modules n) (option_copied c.at.result))
    c.self.view_is
    (subst (Both (AreRecordNumbers names) (slice_get modules n)) (sym at)
    (zip_at (AreRecordNumbers names) modules c.self.inside.tables.imports n c.self.invariant.1.imports))
