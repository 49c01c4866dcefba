use Rattle.std.proofs.Common.{refl, ◌∙◌}
use Rattle.pc_inline_state.proofs.AddsLemmas.{component_few, definition_few}
use Rattle.pc_inline_state.proofs.StateLemmas.{keeps_trans}
use Rattle.pc_inline_items.proofs.FollowLemmas.{follows_lacking, follows_unfed}
use Rattle.pc_inline_items.proofs.MadeLemmas.{converted_adds, converted_keeps, instance_done, then_adds, then_keeps}
use Rattle.pc_inline_items.proofs.WholeLemmas.{resources_same, resources_twice}
use Rattle.pc_inline_items.proofs.made.add_instance.Goals as goal

pub returns-in_err-ty : goal.returns-in_err-ty
returns-in_err-ty c =
    let e = c.instance_type.ensures in
    record {
      keeps = converted_keeps _ _ _ _ _ e.converts e.adds;
      adds = converted_adds _ _ _ _ _ e.converts e.adds;
      resources = e.converts.grows.resources;
      changes = refl;
      same = refl;
      steps = λ now vs at members. follows_lacking _ _ _ _ _ _ _ c.from_residual.ensures.1 c.in_err-ty.ensures.err;
    }

pub returns-in_err-exports : goal.returns-in_err-exports
returns-in_err-exports c =
    let e = c.instance_type.ensures in
    record {
      keeps = then_keeps _ _ _ _ _ e.converts e.adds _ c.push_instance.ensures.keeps;
      adds = then_adds _ _ _ _ _ e.converts e.adds _ (definition_few _ _ _ c.push_instance.ensures.adds);
      resources = resources_same c.push_instance.ensures.adds ∙ e.converts.grows.resources;
      changes = refl;
      same = refl;
      steps = λ now vs at members. follows_lacking _ _ _ _ _ _ _ c.from_residual-in_err-exports.ensures.1
          c.in_err-exports.ensures.lacks;
    }

pub returns-in_err-id : goal.returns-in_err-id
returns-in_err-id c =
    let e = c.instance_type.ensures in
    record {
      keeps = then_keeps _ _ _ _ _ e.converts e.adds _
          (keeps_trans _ _ _ c.push_instance.ensures.keeps c.push_definition.ensures.keeps);
      adds = then_adds _ _ _ _ _ e.converts e.adds _
          (component_few _ _ _ _ c.push_instance.ensures.adds c.push_definition.ensures.adds);
      resources = resources_twice c.push_instance.ensures.adds c.push_definition.ensures.adds
          ∙ e.converts.grows.resources;
      changes = refl;
      same = refl;
      steps = λ now vs at members. follows_lacking _ _ _ _ _ _ _ c.from_residual-in_err-id.ensures.1
          c.in_err-id.ensures.lacks;
    }

pub returns-in_err-push : goal.returns-in_err-push
returns-in_err-push c =
    let e = c.instance_type.ensures in
    record {
      keeps = then_keeps _ _ _ _ _ e.converts e.adds _
          (keeps_trans _ _ _ c.push_instance.ensures.keeps c.push_definition.ensures.keeps);
      adds = then_adds _ _ _ _ _ e.converts e.adds _
          (component_few _ _ _ _ c.push_instance.ensures.adds c.push_definition.ensures.adds);
      resources = resources_twice c.push_instance.ensures.adds c.push_definition.ensures.adds
          ∙ e.converts.grows.resources;
      changes = refl;
      same = refl;
      steps = λ now vs at members. follows_unfed _ _ _ _ _ _ c.from_residual-in_err-push.ensures.1;
    }

pub returns : goal.returns
returns c =
    let e = c.instance_type.ensures in
    record {
      keeps = then_keeps _ _ _ _ _ e.converts e.adds _
          (keeps_trans _ _ _ c.push_instance.ensures.keeps c.push_definition.ensures.keeps);
      adds = then_adds _ _ _ _ _ e.converts e.adds _
          (component_few _ _ _ _ c.push_instance.ensures.adds c.push_definition.ensures.adds);
      resources = resources_twice c.push_instance.ensures.adds c.push_definition.ensures.adds
          ∙ e.converts.grows.resources;
      changes = refl;
      same = refl;
      steps = λ now vs at members. instance_done _ _ _ _ _ _ e.converts c.args.ty c.requires.there c.in_ok-ty.ty
          c.in_ok-ty.ensures.is _ c.in_ok-exports.exports c.in_ok-exports.ensures.key c.in_ok-id.id _ _ _
          c.in_ok-exports.ensures.ok c.in_ok-id.ensures.key c.in_ok-id.ensures.ok c.in_ok-push.ensures.ok now vs at
          members tt;
    }
