use Rattle.std.proofs.Common.{ap, ◌∙◌}
use Rattle.pc_local.specs.declared.item.Translation.{Translation}
use Rattle.pc_inline_stack.proofs.MovesLemmas.{falls_leaving, leaves, leaves_crowded, leaving_named, leaving_return}
use Rattle.pc_inline_stack.proofs.MovesLemmas.{leaving_type, leaving_typed}
use Rattle.pc_inline_stack.proofs.NamesLemmas.{exports_numbered}
use Rattle.pc_inline_stack.proofs.driver.leave.Goals as goal

pub end_child-ended-requires-clause-returns : goal.end_child-ended-requires-clause-returns
end_child-ended-requires-clause-returns c =
    leaving_return _ _ _ c.args.root.now _ c.args.caller _ c.args.stack.now.top _ c.requires.here _ _
    c.replace-child.ensures.after c.replace-child.ensures.value

pub end_child-ended-requires-clause-named : goal.end_child-ended-requires-clause-named
end_child-ended-requires-clause-named c =
    leaving_named _ _ _ c.args.root.now c.requires.sound _ c.args.caller _ c.args.stack.now.top _ c.requires.here _
    c.replace-child.ensures.value _
    (c.as_slice-exports.ensures ∙ ap (λ (tr : Translation). tr.exports) c.body_at.ensures)

pub end_child-ended-requires-clause-numbered : goal.end_child-ended-requires-clause-numbered
end_child-ended-requires-clause-numbered c =
    exports_numbered _ _ _ c.args.root.now c.args.state.now c.args.caller _ c.args.stack.now.top _ c.requires.here _
    c.replace-child.ensures.value _
    (c.as_slice-exports.ensures ∙ ap (λ (tr : Translation). tr.exports) c.body_at.ensures) _
    c.body_exports-numbers.ensures

pub end_child-ended-requires-clause-typed : goal.end_child-ended-requires-clause-typed
end_child-ended-requires-clause-typed c =
    leaving_typed _ _ _ c.args.root.now _ c.args.caller _ c.args.stack.now.top _ c.requires.here _
    (leaving_type c.args.state.now c.args.root.now c.args.caller _ _ c.type_at.ensures c.unwrap_or-ty.ensures)

pub returns-in-Err : goal.returns-in-Err
returns-in-Err c = record {
  moves = leaves_crowded _ _ _ c.args.root.now c.args.state.now _ c.args.stack.now.top _ c.args.caller _
      (leaving_type c.args.state.now c.args.root.now c.args.caller _ _ c.type_at.ensures c.unwrap_or-ty.ensures)
      c.requires.ended c.end_child-ended.new.state
      c.end_child-ended.new.frame c.in-Err.ensures.keeps c.replace-child.new.dest c.replace-child.result
      c.replace-child.ensures.after c.replace-child.ensures.value _
      (c.as_slice-exports.ensures ∙ ap (λ (tr : Translation). tr.exports) c.body_at.ensures) c.in-Err.ensures.adds
      c.in-Err.ensures.same c.in-Err.error c.in-Err.ensures.gives _ c.place_of.ensures _ c.error_at.ensures _ _;
  falls = tt;
  waits = tt;
}

pub returns : goal.returns
returns c =
    let ty = leaving_type c.args.state.now c.args.root.now c.args.caller _ _ c.type_at.ensures c.unwrap_or-ty.ensures in
    let are = c.as_slice-exports.ensures ∙ ap (λ (tr : Translation). tr.exports) c.body_at.ensures in
    record {
      moves = leaves _ _ _ c.args.root.now c.args.state.now _ c.args.stack.now.top _ c.args.caller _ ty c.requires.ended
          c.end_child-ended.new.state c.end_child-ended.new.frame c.in_default.ensures.keeps c.replace-child.new.dest
          c.replace-child.result c.replace-child.ensures.after c.replace-child.ensures.value _ are
          c.in_default.ensures.adds c.in_default.ensures.same _ _ c.in_default.ensures.gives
          c.in_default.ensures.trail;
      falls = falls_leaving c.args.context.now.table.now c.args.context.now.modules _ c.args.root.now c.args.state.now _
          c.args.stack.now.top c.args.stack.now.total c.args.caller _ ty c.requires.ended c.end_child-ended.new.state
          c.end_child-ended.new.frame c.in_default.ensures.keeps c.replace-child.new.dest c.replace-child.result
          c.replace-child.ensures.after c.replace-child.ensures.value _ are c.in_default.ensures.adds
          c.in_default.ensures.same;
      waits = λ each. each;
    }
