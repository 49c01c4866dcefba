use Rattle.std.proofs.Common.{ap, refl, ◌∙◌}
use Rattle.pc_inline_state.specs.declared.frame.Frame.{Frame}
use Rattle.pc_inline_state.proofs.AddsLemmas.{definition_few}
use Rattle.pc_inline_items.proofs.IntrinsicLemmas.{defined_added, defined_crowded, defined_unfed}
use Rattle.pc_inline_items.proofs.ItemLemmas.{item_changes, item_same}
use Rattle.pc_inline_items.proofs.WholeLemmas.{resources_same}
use Rattle.pc_inline_items.proofs.intrinsics.add_defined.Goals as goal

pub returns-in_err-id : goal.returns-in_err-id
returns-in_err-id c = record {
  keeps = c.push_definition.ensures.keeps;
  adds = λ t. definition_few t _ _ c.push_definition.ensures.adds;
  resources = resources_same c.push_definition.ensures.adds;
  changes = refl;
  same = refl;
  follows = defined_crowded _ _ _ _ _ _ _ _ c.from_residual.ensures.1 c.in_err-id.ensures.lacks;
}

pub returns-in_err-push_item : goal.returns-in_err-push_item
returns-in_err-push_item c = record {
  keeps = c.push_definition.ensures.keeps;
  adds = λ t. definition_few t _ _ c.push_definition.ensures.adds;
  resources = resources_same c.push_definition.ensures.adds;
  changes = ap (λ (f : Frame). f.changes) c.in_err-push_item.ensures.err;
  same = ap (λ (f : Frame). f.component_instance) c.in_err-push_item.ensures.err;
  follows = defined_unfed _ _ _ _ _ _ _ c.from_residual-in_err-push_item.ensures.1;
}

pub returns : goal.returns
returns c = record {
  keeps = c.push_definition.ensures.keeps;
  adds = λ t. definition_few t _ _ c.push_definition.ensures.adds;
  resources = resources_same c.push_definition.ensures.adds;
  changes = ap (λ (f : Frame). f.changes) c.in_ok-push_item.ensures.ok
      ∙ item_changes c.args.frame.now c.args.kind c.in_ok-id.id;
  same = ap (λ (f : Frame). f.component_instance) c.in_ok-push_item.ensures.ok
      ∙ item_same c.args.frame.now c.args.kind c.in_ok-id.id;
  follows = defined_added _ _ _ _ c.requires.alone _ c.in_ok-id.ensures.ok c.in_ok-id.id c.in_ok-id.ensures.key _
      c.in_ok-push_item.ensures.ok tt;
}
