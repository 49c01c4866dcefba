use Rattle.std.proofs.Common.{ap, refl, sym, ◌∙◌}
use Rattle.pc_inline_state.specs.declared.frame.Frame.{Frame}
use Rattle.pc_inline_state.specs.declared.state.State.{State}
use Rattle.pc_inline_state.proofs.StateLemmas.{keeps_trans}
use Rattle.pc_inline_items.proofs.HostAliasLemmas.{alias_added, alias_component, alias_crowded, alias_unfed}
use Rattle.pc_inline_items.proofs.HostAliasLemmas.{alias_unlike}
use Rattle.pc_inline_items.proofs.HostAliasLemmas.{path_adds, path_then}
use Rattle.pc_inline_items.proofs.ItemLemmas.{item_changes, item_same}
use Rattle.pc_inline_items.proofs.WholeLemmas.{resources_same}
use Rattle.pc_inline_items.proofs.hosts.add_member.Goals as goal

pub returns-in_err-path : goal.returns-in_err-path
returns-in_err-path c = record {
  keeps = c.path_to_member.ensures.keeps;
  adds = λ t. path_adds t _ _ c.path_to_member.ensures.adds;
  resources = ap (λ (x : State). x.types.resources) c.path_to_member.ensures.rest;
  changes = refl;
  same = refl;
  follows = λ name named. alias_unfed _ _ _ _ _ _ _ _ _ c.from_residual.ensures.1;
}

pub returns-in_default : goal.returns-in_default
returns-in_default c = record {
  keeps = c.path_to_member.ensures.keeps;
  adds = λ t. path_adds t _ _ c.path_to_member.ensures.adds;
  resources = ap (λ (x : State). x.types.resources) c.path_to_member.ensures.rest;
  changes = refl;
  same = refl;
  follows = λ name named. alias_component c.args.kind c.args.parent name c.args.member c.args.state.now c.args.frame.now
      c.path_to_member.new.self c.path_to_member.ensures.rest c.path_to_member.ensures.keeps
      c.in_ok-path.ensures.sound c.in_ok-path.path
      (λ path held. (c.in_ok-path.ensures.takes path name held named).held)
      (sym c.definition.ensures ∙ c.in_default.is) _ _;
}

pub returns-then-not-is_of_kind : goal.returns-then-not-is_of_kind
returns-then-not-is_of_kind c = record {
  keeps = c.path_to_member.ensures.keeps;
  adds = λ t. path_adds t _ _ c.path_to_member.ensures.adds;
  resources = ap (λ (x : State). x.types.resources) c.path_to_member.ensures.rest;
  changes = refl;
  same = refl;
  follows = λ name named. alias_unlike c.args.kind c.args.parent name c.args.member c.args.state.now c.args.frame.now
      c.path_to_member.new.self c.path_to_member.ensures.rest c.path_to_member.ensures.keeps
      c.in_ok-path.ensures.sound c.in_ok-path.path
      (λ path held. (c.in_ok-path.ensures.takes path name held named).held) c.in-Some.definition
      (sym c.definition.ensures ∙ c.in-Some.is) (sym c.is_of_kind.ensures ∙ c.if-not-is_of_kind.true) _ _;
}

pub returns-in_err-id : goal.returns-in_err-id
returns-in_err-id c = record {
  keeps = keeps_trans _ _ _ c.path_to_member.ensures.keeps c.push_definition.ensures.keeps;
  adds = λ t. path_then t _ _ _ c.path_to_member.ensures.adds c.push_definition.ensures.adds;
  resources = resources_same c.push_definition.ensures.adds
      ∙ ap (λ (x : State). x.types.resources) c.path_to_member.ensures.rest;
  changes = refl;
  same = refl;
  follows = λ name named. alias_crowded _ _ _ _ _ _ _ _ _ _ c.from_residual-in_err-id.ensures.1 c.in_err-id.ensures.lacks;
}

pub returns-in_err-push_item : goal.returns-in_err-push_item
returns-in_err-push_item c = record {
  keeps = keeps_trans _ _ _ c.path_to_member.ensures.keeps c.push_definition.ensures.keeps;
  adds = λ t. path_then t _ _ _ c.path_to_member.ensures.adds c.push_definition.ensures.adds;
  resources = resources_same c.push_definition.ensures.adds
      ∙ ap (λ (x : State). x.types.resources) c.path_to_member.ensures.rest;
  changes = ap (λ (f : Frame). f.changes) c.in_err-push_item.ensures.err;
  same = ap (λ (f : Frame). f.component_instance) c.in_err-push_item.ensures.err;
  follows = λ name named. alias_unfed _ _ _ _ _ _ _ _ _ c.from_residual-in_err-push_item.ensures.1;
}

pub returns : goal.returns
returns c = record {
  keeps = keeps_trans _ _ _ c.path_to_member.ensures.keeps c.push_definition.ensures.keeps;
  adds = λ t. path_then t _ _ _ c.path_to_member.ensures.adds c.push_definition.ensures.adds;
  resources = resources_same c.push_definition.ensures.adds
      ∙ ap (λ (x : State). x.types.resources) c.path_to_member.ensures.rest;
  changes = ap (λ (f : Frame). f.changes) c.in_ok-push_item.ensures.ok
      ∙ item_changes c.args.frame.now c.args.kind c.in_ok-id.id;
  same = ap (λ (f : Frame). f.component_instance) c.in_ok-push_item.ensures.ok
      ∙ item_same c.args.frame.now c.args.kind c.in_ok-id.id;
  follows = λ name named. alias_added c.args.kind c.args.parent name c.args.member c.args.state.now c.args.frame.now
      c.path_to_member.new.self c.path_to_member.ensures.rest c.path_to_member.ensures.keeps
      c.in_ok-path.ensures.sound c.in_ok-path.path
      (λ path held. (c.in_ok-path.ensures.takes path name held named).held) c.in-Some.definition
      (sym c.definition.ensures ∙ c.in-Some.is) (sym c.is_of_kind.ensures ∙ c.if-not-is_of_kind.false) _
      c.in_ok-id.ensures.ok c.in_ok-id.id c.in_ok-id.ensures.key _ c.in_ok-push_item.ensures.ok tt;
}
