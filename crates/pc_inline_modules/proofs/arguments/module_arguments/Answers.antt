use Rattle.std.proofs.Common.{None, ap, sym, subst, ◌∙◌}
use Rattle.std.specs.Prelude.{option_and_then, slice_get}
use Rattle.std.specs.Option.{option_copied}
use Rattle.std.proofs.lemmas.Option.{none-some}
use Rattle.pc_spec_reading.specs.Arguments.{static_arguments}
use Rattle.pc_inline_names.specs.Both.{Both, neither}
use Rattle.pc_inline_names.specs.Numbers.{AreImportNumbers}
use Rattle.pc_inline_state.specs.Found.{ArgumentsStand}
use Rattle.pc_inline_state.specs.Tables.{tables_of}
use Rattle.pc_inline_state.proofs.ZipLemmas.{both_there}
use Rattle.pc_inline_modules.proofs.ModuleArgumentsLemmas.{all_given, both_are, unknown_given}
use Rattle.pc_inline_modules.proofs.arguments.module_arguments.Goals as goal

pub returns-in_default : goal.returns-in_default
returns-in_default c s stands =
    subst (λ o. Both (ArgumentsStand c.args.context.now.modules (tables_of c.args.state.now)) None
    (option_and_then (static_arguments c.args.context.now.modules s c.args.args.now) o))
    (sym (ap option_copied c.in_default.is) ∙ c.record_.ensures) neither

pub returns-in_default-module_imports : goal.returns-in_default-module_imports
returns-in_default-module_imports c s stands =
    let modules = c.requires.here.1.sound.names.modules in
    let there = both_there _ _ _ c.in-Some.record_.now c.module_imports.ensures
    (ap (λ ms. slice_get ms c.args.core_module.0) modules ∙ sym c.record_.ensures ∙ ap option_copied c.in-Some.is) in
    absurd (none-some there.0 (sym (ap option_copied c.in_default-module_imports.is) ∙ there.1))

pub returns-then-not-knows_instances : goal.returns-then-not-knows_instances
returns-then-not-knows_instances c s stands =
    subst (λ o. Both (ArgumentsStand c.args.context.now.modules (tables_of c.args.state.now)) None o)
    (sym (unknown_given c.args.context.now.modules (tables_of c.args.state.now) c.args.frame.now c.args.args.now s
    stands
    (sym c.knows_instances.ensures ∙ c.if-not-knows_instances.true) _)) neither

pub numbered_arguments-requires : goal.numbered_arguments-requires
numbered_arguments-requires c =
    let names = c.args.state.now.names.now.texts in
    let there = both_are _ _ _ c.in-Some.record_.now c.in-Some-module_imports.import_numbers.now c.module_imports.ensures
    (ap (λ ms. slice_get ms c.args.core_module.0) c.requires.here.1.sound.names.modules ∙ sym c.record_.ensures
    ∙ ap option_copied c.in-Some.is) (ap option_copied c.in-Some-module_imports.is) in
    record {
      input = c.requires.input;
      here = c.requires.here;
      numbered = c.requires.numbered;
      imports = subst (AreImportNumbers names c.as_slice.result.now) (sym c.as_slice-2.ensures)
          (subst (λ is. AreImportNumbers names is c.in-Some-module_imports.import_numbers.now) (sym c.as_slice.ensures)
          there);
    }

pub returns : goal.returns
returns c =
    all_given c.args.context.now.modules (tables_of c.args.state.now) c.args.frame.now c.args.args.now
    c.numbered_arguments.result
    c.args.core_module.0 c.in-Some.record_.now _ c.as_slice.ensures
    (sym c.record_.ensures ∙ ap option_copied c.in-Some.is)
    (sym c.knows_instances.ensures ∙ c.if-not-knows_instances.false) c.numbered_arguments.ensures
