use Rattle.std.proofs.Common.{◌≡◌, ℕ, List, Some, ap, subst, sym, ◌∙◌}
use Rattle.std.specs.Option.{option_copied}
use Rattle.std.specs.Prelude.{slice_get}
use Rattle.pc_inline_exports.proofs.PartLemmas.{field_named, host_component, host_found, host_none, host_path_held}
use Rattle.pc_inline_exports.proofs.PartLemmas.{host_type_held, host_unnumbered, host_untold, memory_finds}
use Rattle.pc_inline_exports.proofs.PartLemmas.{number_held, path_added, path_stands}
use Rattle.pc_inline_exports.proofs.part.host_part.Goals as goal

pub host_member-requires-clause-held : goal.host_member-requires-clause-held
host_member-requires-clause-held c =
    host_type_held c.args.context.now.table.now _ c.args.state.now _ _ _ c.requires.has

pub returns-in_default-clause-finds : goal.returns-in_default-clause-finds
returns-in_default-clause-finds c =
    host_none c.args.context.now.table.now _ c.args.state.now _ _ _ _ _ c.host_member.ensures c.in_default.is

pub returns-in-Component-clause-finds : goal.returns-in-Component-clause-finds
returns-in-Component-clause-finds c =
    host_component c.args.context.now.table.now _ c.args.state.now _ _ _ _ _ c.host_member.ensures _ c.in-Some.is
    c.in-Component.is

pub returns-in_default-export_number-clause-finds : goal.returns-in_default-export_number-clause-finds
returns-in_default-export_number-clause-finds c =
    host_unnumbered _ _ _ _ _ _ _ c.requires.sound _ c.export_number.ensures c.in_default-export_number.is

pub returns-in_default-text-clause-finds : goal.returns-in_default-text-clause-finds
returns-in_default-text-clause-finds c =
    host_untold _ _ _ _ _ _ _ c.requires.sound _ c.export_number.ensures _ c.in-Some-export_number.is _ c.text.ensures
    (ap option_copied c.in_default-text.is)

pub returns-in_err-name-clause-finds : goal.returns-in_err-name-clause-finds
returns-in_err-name-clause-finds c =
    memory_finds c.args.context.now.table.now _ c.args.state.now c.args.state.now _ _ _ c.from_residual.ensures.1

pub path_to_member-requires : goal.path_to_member-requires
path_to_member-requires c = record {
  held = host_path_held c.args.context.now.table.now _ c.args.state.now _ _ _ c.requires.has;
  named = number_held _ _ _ _ _ _ c.export_number.ensures c.requires.sound _ c.in-Some-export_number.is;
}

pub returns-in_err-path-clause-adds : goal.returns-in_err-path-clause-adds
returns-in_err-path-clause-adds c =
    let e = c.path_to_member.ensures in
    path_added c.args.context.now.table.now c.args.context.now.modules c.args.state.now c.path_to_member.new.self
    e.keeps e.adds e.rest

pub returns-in_err-path-clause-finds : goal.returns-in_err-path-clause-finds
returns-in_err-path-clause-finds c =
    memory_finds c.args.context.now.table.now _ c.args.state.now c.path_to_member.new.self _ _ _
    c.from_residual-in_err-path.ensures.1

pub returns : goal.returns
returns c =
    let e = c.path_to_member.ensures in
    let sound = c.requires.sound in
    let label = c.in-Some-text.label.now in
    let told = sym c.text.ensures ∙ ap option_copied c.in-Some-text.is in
    record {
      adds = path_added c.args.context.now.table.now c.args.context.now.modules c.args.state.now
          c.path_to_member.new.self e.keeps e.adds e.rest;
      stands = path_stands c.args.context.now.table.now c.args.context.now.modules c.args.state.now
          c.path_to_member.new.self c.in_ok-path.ensures.sound e.rest;
      finds = host_found c.args.context.now.table.now _ c.args.state.now _ _ _ _ _ c.host_member.ensures _ c.in-Some.is
          label (field_named _ _ _ _ _ _ _ sound _ c.export_number.ensures _ c.in-Some-export_number.is label told)
          c.path_to_member.new.self e.keeps _
          (λ path held. c.in_ok-path.ensures.takes path label held
          (subst (λ (names : List (List ℕ)). slice_get names c.in-Some-export_number.number.0 ≡ Some label)
          (sym sound.names.paths) told))
          _ (sym c.definition.ensures ∙ c.in-Some-definition.is) c.in_ok-name.name c.in_ok-name.ensures;
    }
