use Rattle.std.proofs.Common.{List, Option, None, sym, ap, subst, ◌∙◌}
use Rattle.std.specs.Prelude.{slice_get}
use Rattle.std.specs.Option.{option_copied}
use Rattle.pc_numbers.specs.declared.component_entity.StaticComponentIndex.{StaticComponentIndex}
use Rattle.pc_inline_names.specs.declared.bodies.BodyNumbers.{BodyNumbers}
use Rattle.pc_inline_names.specs.Both.{Both, neither}
use Rattle.pc_inline_names.specs.Named.{Named, nested_at}
use Rattle.pc_inline_names.specs.Tables.{AreBodyNumbers}
use Rattle.pc_inline_names.proofs.ZipLemmas.{zip_at}
use Rattle.pc_inline_names.proofs.program_names.ProgramNames.nested.Goals as goal

pub returns-in-Some : goal.returns-in-Some
returns-in-Some c =
    let n = c.in-Some.body.0 in
    let names = c.self.inside.texts in
    let bodies = c.self.inside.program.now.components in
    let at = c.at.ensures ∙ ap (λ (xs : List BodyNumbers). slice_get xs n) c.as_slice.ensures in
    subst
    (λ (b : Option StaticComponentIndex). Both (AreBodyNumbers c.args.self.now.texts)
    (nested_at c.args.self.now.bodies b) (option_copied c.at.result)) (sym c.in-Some.is)
    (subst (λ (s : Named). Both (AreBodyNumbers s.texts) (slice_get s.bodies n) (option_copied c.at.result))
    c.self.view_is
    (subst (Both (AreBodyNumbers names) (slice_get bodies n)) (sym at)
    (zip_at (AreBodyNumbers names) bodies c.self.inside.tables.bodies n c.self.invariant.1.bodies)))

pub returns-in-None : goal.returns-in-None
returns-in-None c =
    subst
    (λ (b : Option StaticComponentIndex). Both (AreBodyNumbers c.args.self.now.texts)
    (nested_at c.args.self.now.bodies b) None) (sym c.in-None.is) neither
