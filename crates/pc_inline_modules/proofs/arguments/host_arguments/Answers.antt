use Rattle.std.proofs.Common.{◌≡◌, true, Some, None, length, map, ap, sym, subst, ◌∙◌}
use Rattle.std.specs.Prelude.{option_and_then, slice_get}
use Rattle.std.specs.Option.{option_copied}
use Rattle.std.proofs.lemmas.Option.{none-some}
use Rattle.pc_entity.specs.Lists.{map_all}
use Rattle.pc_types.specs.declared.parsed.TypeTable.{TypeTable}
use Rattle.pc_types.specs.Names.{are_distinct, same_pair}
use Rattle.pc_types.specs.Table.{is_module}
use Rattle.pc_spec_reading.specs.Arguments.{host_arguments, static_argument}
use Rattle.pc_spec_reading.specs.Types.{has_entry}
use Rattle.pc_inline_names.specs.Both.{Both, neither}
use Rattle.pc_inline_names.specs.Named.{imports_of}
use Rattle.pc_inline_names.specs.Numbers.{AreImportNumbers}
use Rattle.pc_inline_state.specs.Found.{ArgumentStands, ArgumentsStand}
use Rattle.pc_inline_state.specs.Tables.{tables_of}
use Rattle.pc_inline_state.proofs.ZipLemmas.{both_missing, both_there}
use Rattle.pc_inline_modules.specs.Given.{HostArgumentsStand}
use Rattle.pc_inline_modules.specs.Grouped.{by_module, paired, pair_of}
use Rattle.pc_inline_modules.proofs.HostArgumentsLemmas.{entry_apart, given_each, host_all, host_missing, not_module}
use Rattle.pc_inline_modules.proofs.HostArgumentsLemmas.{unknown_host}
use Rattle.pc_inline_modules.proofs.ModuleArgumentsLemmas.{both_are, same_known}
use Rattle.pc_inline_modules.proofs.arguments.host_arguments.Goals as goal

pub returns-in_default : goal.returns-in_default
returns-in_default c s tree stands tabled =
    absurd (not_module c.args.context.now.table.now c.args.entry
    (subst (λ (u : TypeTable). has_entry u is_module c.args.entry ≡ true) c.requires.here.1.sound.table tabled.there)
    (sym c.module_imports.ensures ∙ ap option_copied c.in_default.is))

pub returns-in_default-type_imports : goal.returns-in_default-type_imports
returns-in_default-type_imports c s tree stands tabled =
    let table = c.requires.here.1.sound.names.table in
    let there = both_there _ _ _ c.in-Some.imports.now c.type_imports.ensures
    (ap (λ (u : TypeTable). option_and_then imports_of (slice_get u.types c.args.entry)) table
    ∙ sym c.module_imports.ensures ∙ ap option_copied c.in-Some.is) in
    absurd (none-some there.0 (sym (ap option_copied c.in_default-type_imports.is) ∙ there.1))

pub numbered_arguments-requires : goal.numbered_arguments-requires
numbered_arguments-requires c =
    let names = c.args.state.now.names.now.texts in
    let there = both_are _ _ _ c.in-Some.imports.now c.in-Some-type_imports.import_numbers.now c.type_imports.ensures
    (ap (λ (u : TypeTable). option_and_then imports_of (slice_get u.types c.args.entry))
    c.requires.here.1.sound.names.table ∙ sym c.module_imports.ensures ∙ ap option_copied c.in-Some.is)
    (ap option_copied c.in-Some-type_imports.is) in
    record {
      input = c.requires.input;
      here = c.requires.here;
      numbered = c.requires.numbered;
      imports = subst (AreImportNumbers names c.as_slice.result.now) (sym c.as_slice-2.ensures)
          (subst (λ is. AreImportNumbers names is c.in-Some-type_imports.import_numbers.now) (sym c.as_slice.ensures)
          there);
    }

pub returns-then-not-knows_instances : goal.returns-then-not-knows_instances
returns-then-not-knows_instances c s tree stands tabled =
    subst (λ o. Both (HostArgumentsStand c.args.context.now.modules (tables_of c.args.state.now)) None o)
    (sym (unknown_host c.args.context.now.modules (tables_of c.args.state.now) c.args.frame.now c.args.args.now s
    stands (sym c.knows_instances.ensures ∙ c.if-not-knows_instances.true) tree)) neither

pub by_module-requires : goal.by_module-requires
by_module-requires c =
    let here = c.requires.here in
    let ms = c.args.context.now.modules in
    let b = tables_of c.args.state.now in
    let values = static_argument ms here.0.scope c.args.args.now in
    let given = subst (λ o. Both (ArgumentsStand ms b) o (map_all values c.as_slice.result.now)) c.in-Some-2.is
    (c.in_ok-defs.ensures here.0.scope here.1.frame) in
    record {
      each = ap length c.as_slice-4.ensures
          ∙ given_each (ArgumentStands ms b) values c.in-Some-2.defs c.as_slice.result.now given
          ∙ ap length (c.as_slice.ensures ∙ sym c.as_slice-3.ensures);
      apart = subst (λ is. are_distinct same_pair (map pair_of is) ≡ true) (sym c.as_slice-3.ensures)
          (entry_apart c.args.context.now.table.now c.requires.input.table c.args.entry c.in-Some.imports.now
          (sym c.module_imports.ensures ∙ ap option_copied c.in-Some.is));
    }

pub returns-in_default-2 : goal.returns-in_default-2
returns-in_default-2 c s tree stands tabled =
    let ms = c.args.context.now.modules in
    let b = tables_of c.args.state.now in
    let args = c.args.args.now in
    let values = static_argument ms s args in
    let given = c.in_ok-defs.ensures s stands in
    let none = ap (map_all values) (sym c.as_slice.ensures)
    ∙ both_missing (ArgumentsStand ms b) _ _ given c.in_default-2.is in
    subst (Both (HostArgumentsStand ms b) None)
    (sym (host_missing c.args.context.now.table.now ms s args b c.args.entry tree tabled c.requires.here.1.sound.table
    c.in-Some.imports.now (sym c.module_imports.ensures ∙ ap option_copied c.in-Some.is)
    (sym (same_known ms b c.args.frame.now args s stands)
    ∙ (sym c.knows_instances.ensures ∙ c.if-not-knows_instances.false)) none)) neither

pub returns : goal.returns
returns c s tree stands tabled =
    let ms = c.args.context.now.modules in
    let b = tables_of c.args.state.now in
    let args = c.args.args.now in
    let values = static_argument ms s args in
    let given = subst (λ is. Both (ArgumentsStand ms b) (Some c.in-Some-2.defs) (map_all values is)) c.as_slice.ensures
    (subst (λ o. Both (ArgumentsStand ms b) o (map_all values c.as_slice.result.now)) c.in-Some-2.is
    (c.in_ok-defs.ensures s stands)) in
    subst (λ x. Both (HostArgumentsStand ms b) (Some x) (host_arguments ms s args tree))
    (sym (c.in_ok-new.ensures ∙ c.in_ok-given.ensures
    ∙ (λ i. by_module (paired (c.as_slice-3.ensures i) (c.as_slice-4.ensures i)))))
    (host_all c.args.context.now.table.now ms s args b c.args.entry tree tabled c.requires.here.1.sound.table
    c.in-Some.imports.now (sym c.module_imports.ensures ∙ ap option_copied c.in-Some.is)
    (sym (same_known ms b c.args.frame.now args s stands)
    ∙ (sym c.knows_instances.ensures ∙ c.if-not-knows_instances.false)) c.in-Some-2.defs given)
