use Rattle.std.proofs.Common.{ap, sym, ◌∙◌}
use Rattle.pc_inline_state.specs.declared.frame.Frame.{Frame}
use Rattle.pc_inline_state.proofs.StateLemmas.{keeps_trans}
use Rattle.pc_inline_state.proofs.TrailLemmas.{trails_same}
use Rattle.pc_inline_canon.proofs.PassedLemmas.{passed_lacking}
use Rattle.pc_inline_items.proofs.MadeLemmas.{exports_adds, exports_follow, exports_miss, exports_unheld}
use Rattle.pc_inline_items.proofs.MadeLemmas.{exports_untyped}
use Rattle.pc_inline_items.proofs.MadeLemmas.{members_adds}
use Rattle.pc_inline_items.proofs.made.step_component_exports.Goals as goal

pub returns-then-not-is_instance_type-clause-steps : goal.returns-then-not-is_instance_type-clause-steps
returns-then-not-is_instance_type-clause-steps c =
    exports_untyped _ _ c.args.exports.now _ _ _ _ _ (sym c.is_instance_type.ensures ∙ c.if-not-is_instance_type.true)

pub returns-then-not-are_typed-clause-steps : goal.returns-then-not-are_typed-clause-steps
returns-then-not-are_typed-clause-steps c =
    exports_unheld _ _ c.args.exports.now _ c.requires.input.table
    (sym c.is_instance_type.ensures ∙ c.if-not-is_instance_type.false) _ _ _ _
    (sym c.are_typed.ensures ∙ c.if-not-are_typed.true)

pub returns-then-not-are_there-clause-steps : goal.returns-then-not-are_there-clause-steps
returns-then-not-are_there-clause-steps c =
    exports_miss _ _ c.args.exports.now _ c.requires.input.table
    (sym c.is_instance_type.ensures ∙ c.if-not-is_instance_type.false)
    (sym c.are_typed.ensures ∙ c.if-not-are_typed.false) _ _ _ _ (sym c.are_there.ensures ∙ c.if-not-are_there.true)

pub returns-in_err-members : goal.returns-in_err-members
returns-in_err-members c =
    let takes = c.export_members.ensures.takes in
    record {
      keeps = takes.keeps;
      adds = exports_adds _ _ _ _ takes.adds;
      trail = trails_same _ _ _ _ (ap (λ (f : Frame). f.changes) takes.frame) takes.resources;
      same = ap (λ (f : Frame). f.component_instance) takes.frame;
      steps = passed_lacking _ _ _ _ _ _ _ _ _ c.from_residual.ensures.1 c.in_err-members.ensures.lacks;
    }

pub add_instance-requires : goal.add_instance-requires
add_instance-requires c = record {
  input = c.requires.input;
  here = (c.requires.here.0, c.export_members.ensures.takes.stands c.requires.here.0 c.requires.here.1);
  there = sym c.is_instance_type.ensures ∙ c.if-not-is_instance_type.false;
}

pub returns : goal.returns
returns c =
    let takes = c.export_members.ensures.takes in
    let e = c.add_instance.ensures in
    record {
      keeps = keeps_trans _ _ _ takes.keeps e.keeps;
      adds = members_adds _ _ _ _ _ takes.adds e.adds;
      trail = trails_same _ _ _ _ (e.changes ∙ ap (λ (f : Frame). f.changes) takes.frame) (e.resources
          ∙ takes.resources);
      same = e.same ∙ ap (λ (f : Frame). f.component_instance) takes.frame;
      steps = exports_follow _ _ c.args.exports.now c.args.ty c.requires.input.table
          (sym c.is_instance_type.ensures ∙ c.if-not-is_instance_type.false)
          (sym c.are_typed.ensures ∙ c.if-not-are_typed.false) c.args.state.now c.args.frame.now
          (sym c.are_there.ensures ∙ c.if-not-are_there.false) _ _ _
          (λ now at. e.steps now _ (takes.stands now at) (c.in_ok-members.ensures.members now at));
    }
