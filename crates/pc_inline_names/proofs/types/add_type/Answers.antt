use Rattle.std.proofs.Common.{List, [], ℕ, None, Some, refl, sym, ap, subst, ◌∙◌}
use Rattle.std.proofs.lemmas.Result.{IfOk-weaker}
use Rattle.pc_entity.specs.Lists.{names_of}
use Rattle.pc_types.specs.declared.parsed.CoreEntity.{CoreEntity}
use Rattle.pc_types.specs.declared.parsed.DeclType.TheVariants as entry
use Rattle.pc_inline_names.specs.Both.{both, neither}
use Rattle.pc_inline_names.specs.Numbers.{AreImportNumbers, AreNumbersOf}
use Rattle.pc_inline_names.specs.Tables.{AreTypeNumbers}
use Rattle.pc_inline_names.proofs.AddedLemmas.{adds_more, on_ok, type_numbered}
use Rattle.pc_inline_names.proofs.NumberedLemmas.{imports_kept}
use Rattle.pc_inline_names.proofs.types.add_type.Goals as goal

pub returns-in_ok-with_places-in-Instance-clause-numbers : goal.returns-in_ok-with_places-in-Instance-clause-numbers
returns-in_ok-with_places-in-Instance-clause-numbers c =
    let new = c.add_all.new.texts in
    let e = entry.Instance c.in-Instance.exports in
    let ns = c.in_ok-exports-in-Instance.exports in
    let x = c.in_ok-with_places-in-Instance.field-0 in
    let made = c.in_ok-with_places-in-Instance.ensures in
    let has = type_numbered new e x ns None [] made.exports made.places made.imports
    (made.names ∙ c.new-names.ensures)
    (subst (λ xs. AreNumbersOf new (names_of xs) ns) c.as_slice.ensures c.in_ok-exports-in-Instance.ensures.numbers)
    neither refl in
    IfOk-weaker c.of.result _ _ (λ m same. subst (λ o. AreTypeNumbers new c.args.entry.now o) (sym same)
    (subst (λ d. AreTypeNumbers new d (Some x)) (sym c.in-Instance.is) has)) c.of.ensures

pub returns-in_ok-with_places-in-Module-clause-adds : goal.returns-in_ok-with_places-in-Module-clause-adds
returns-in_ok-with_places-in-Module-clause-adds c =
    on_ok c.of-in-Module.result
    (adds_more c.args.texts.now c.add_imports.new.texts c.add_all-in-Module.new.texts
    c.in_ok-imports-in-Module.ensures.adds c.in_ok-exports-in-Module.ensures.adds)

pub returns-in_ok-with_places-in-Module-clause-numbers : goal.returns-in_ok-with_places-in-Module-clause-numbers
returns-in_ok-with_places-in-Module-clause-numbers c =
    let mid = c.add_imports.new.texts in
    let new = c.add_all-in-Module.new.texts in
    let kept = c.in_ok-exports-in-Module.ensures.adds.kept in
    let e = entry.Module c.in-Module.imports c.in-Module.exports in
    let ns = c.in_ok-exports-in-Module.exports in
    let is = c.in_ok-imports-in-Module.imports in
    let x = c.in_ok-with_places-in-Module.field-0 in
    let made = c.in_ok-with_places-in-Module.ensures in
    let imports = imports_kept mid new kept c.in-Module.imports is
    (subst (λ (xs : List (List ℕ × List ℕ × CoreEntity)). AreImportNumbers mid xs is) c.as_slice-in-Module.ensures
    c.in_ok-imports-in-Module.ensures.numbers) in
    let names = c.in_ok-names-in-Module.names in
    let has = type_numbered new e x ns (Some is) names made.exports made.places made.imports made.names
    (subst (λ xs. AreNumbersOf new (names_of xs) ns) c.as_slice-in-Module-3.ensures
    c.in_ok-exports-in-Module.ensures.numbers)
    (both imports)
    (c.in_ok-names-in-Module.ensures ∙ ap names_of c.as_slice-in-Module-2.ensures) in
    IfOk-weaker c.of-in-Module.result _ _ (λ m same. subst (λ o. AreTypeNumbers new c.args.entry.now o) (sym same)
    (subst (λ d. AreTypeNumbers new d (Some x)) (sym c.in-Module.is) has)) c.of-in-Module.ensures
