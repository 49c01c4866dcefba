use Rattle.std.proofs.Common.{[], ap, sym, ◌∙◌}
use Rattle.std.specs.Prelude.{get_or, option_and_then}
use Rattle.std.proofs.lemmas.Option.{slice_get-get_or}
use Rattle.pc_inline_state.specs.declared.frame.Frame.{Frame}
use Rattle.pc_inline_state.specs.Bags.{export_item}
use Rattle.pc_inline_state.proofs.AddsLemmas.{core_few}
use Rattle.pc_inline_state.proofs.TrailLemmas.{trails_same}
use Rattle.pc_inline_state.proofs.ZipLemmas.{both_there}
use Rattle.pc_inline_canon.proofs.GotLemmas.{got_none, got_some}
use Rattle.pc_inline_canon.proofs.StepLemmas.{steps_lacking, steps_memory}
use Rattle.pc_inline_modules.proofs.CoreAliasLemmas.{alias_found, alias_made, alias_missing, core_changes}
use Rattle.pc_inline_modules.proofs.CoreAliasLemmas.{core_same}
use Rattle.pc_inline_modules.proofs.ExportedLemmas.{item_found_there}
use Rattle.pc_inline_modules.proofs.WholeLemmas.{made, unmoved}
use Rattle.pc_inline_modules.proofs.aliases.step_core_alias.Goals as goal

pub export-requires : goal.export-requires
export-requires c =
    let names = c.requires.here.1.sound.names in record { modules = names.modules; table = names.table }

pub returns-in_default : goal.returns-in_default
returns-in_default c =
    unmoved (λ name named. alias_missing _ _ c.requires.input c.args.state.now c.args.frame.now c.args.kind
    c.args.instance c.args.number name named _ _
    (ap (option_and_then (export_item c.args.context.now.table.now c.args.context.now.modules c.args.kind
    c.args.number name))
    (got_none _ _ c.args.instance c.as_slice.ensures c.in_default.ensures.lookup.3)))

pub returns-in_default-export : goal.returns-in_default-export
returns-in_default-export c =
    unmoved (λ name named. alias_missing _ _ c.requires.input c.args.state.now c.args.frame.now c.args.kind
    c.args.instance c.args.number name named _ _
    (ap (option_and_then (export_item c.args.context.now.table.now c.args.context.now.modules c.args.kind
    c.args.number name))
    (got_some _ _ _ c.as_slice.ensures _ c.in-Some.ensures.lookup.3.0 c.in-Some.ensures.lookup.1)
    ∙ sym (c.export.ensures name named) ∙ c.in_default-export.is))

pub returns-in_err-id : goal.returns-in_err-id
returns-in_err-id c =
    made c.found_id.ensures.prepares.keeps (core_few _ _ _ c.found_id.ensures.adds)
    c.found_id.ensures.prepares.resources
    (λ name named. steps_lacking _ _ _ _ _ _ _ _ _ c.from_residual.ensures.1 c.in_err-id.ensures.err)

pub returns-in_err-push_core : goal.returns-in_err-push_core
returns-in_err-push_core c = record {
  keeps = c.found_id.ensures.prepares.keeps;
  adds = core_few _ _ _ c.found_id.ensures.adds;
  trail = trails_same _ _ _ _ (ap (λ (f : Frame). f.changes) c.in_err-push_core.ensures.err)
      c.found_id.ensures.prepares.resources;
  same = ap (λ (f : Frame). f.component_instance) c.in_err-push_core.ensures.err;
  steps = λ name named. steps_memory _ _ _ _ _ _ _ _ c.from_residual-in_err-push_core.ensures.1;
}

pub returns : goal.returns
returns c = record {
  keeps = c.found_id.ensures.prepares.keeps;
  adds = core_few _ _ _ c.found_id.ensures.adds;
  trail = trails_same _ _ _ _ (ap (λ (f : Frame). f.changes) c.in_ok-push_core.ensures.ok ∙ core_changes _ _ _)
      c.found_id.ensures.prepares.resources;
  same = ap (λ (f : Frame). f.component_instance) c.in_ok-push_core.ensures.ok ∙ core_same _ _ _;
  steps = λ name named.
      alias_made _ _ c.requires.input c.args.state.now c.args.frame.now c.args.kind c.args.instance c.args.number name
      named _ _ c.in-Some-export.item c.in_ok-id.id _
      (ap (option_and_then (export_item c.args.context.now.table.now c.args.context.now.modules c.args.kind
      c.args.number name))
      (got_some _ _ _ c.as_slice.ensures _ c.in-Some.ensures.lookup.3.0 c.in-Some.ensures.lookup.1)
      ∙ sym (c.export.ensures name named) ∙ c.in-Some-export.is)
      c.in_ok-id.ensures.prepares c.in_ok-id.ensures.id c.in_ok-push_core.ensures.ok;
}

pub found_id-requires : goal.found_id-requires
found_id-requires c =
    let here = c.requires.here in
    let names = c.args.state.now.names.now.texts in
    let name = get_or names c.args.number.0 [] in
    let named = slice_get-get_or names c.args.number.0 [] c.requires.named in
    let found = alias_found c.args.context.now.table.now c.args.context.now.modules c.requires.input c.args.state.now
    c.args.frame.now c.args.kind c.args.instance c.args.number name named here.0 here.1 in
    let v = both_there _ _ _ c.in-Some-export.item found
    (ap (option_and_then (export_item c.args.context.now.table.now c.args.context.now.modules c.args.kind
    c.args.number name))
    (got_some _ _ _ c.as_slice.ensures _ c.in-Some.ensures.lookup.3.0 c.in-Some.ensures.lookup.1)
    ∙ sym (c.export.ensures name named) ∙ c.in-Some-export.is) in
    record { sound = here.1.sound; there = item_found_there _ _ _ c.in-Some-export.item v.0 v.2 }
