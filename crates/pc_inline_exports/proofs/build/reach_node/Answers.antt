use Rattle.std.proofs.Common.{refl, sym, ◌∙◌}
use Rattle.pc_inline_exports.proofs.GoesLemmas.{last_closes, less_turned, reaches_one, went_off, went_on}
use Rattle.pc_inline_exports.proofs.TurnLemmas.{top_kind, working_first}
use Rattle.pc_inline_exports.proofs.build.reach_node.Goals as goal

pub returns-then-not-nests : goal.returns-then-not-nests
returns-then-not-nests c =
    reaches_one _ _ c.args.state.now c.args.found.definition c.reach_leaf.new.state c.requires.is _ c.reach_leaf.ensures

pub parts-init : goal.parts-init
parts-init c =
    working_first _ _ c.args.state.now c.args.found.definition c.requires.is
    (sym c.nests.ensures ∙ c.if-not-nests.false) c.names_are_apart.ensures c.args.found refl _ c.new.ensures.items c.opened.ensures refl

pub returns-in_err-turn : goal.returns-in_err-turn
returns-in_err-turn c =
    went_off c.args.context.now.table.now c.args.context.now.modules c.args.state.now c.args.found.definition
    c.turn.new.state c.turn.new.stack _ _
    (c.in_err-turn.ensures.goes c.args.state.now c.args.found.definition c.parts.invariant) _ c.from_residual.ensures.0
    c.from_residual.ensures.1

pub parts-smaller : goal.parts-smaller
parts-smaller c =
    less_turned c.args.context.now.table.now c.args.context.now.modules c.parts.state c.turn.new.state c.parts.stack
    c.turn.new.stack c.in_ok-turn.field-0 c.if-branch.true c.in_ok-turn.ensures.turned

pub parts-preserved : goal.parts-preserved
parts-preserved c =
    went_on c.args.context.now.table.now c.args.context.now.modules c.args.state.now c.args.found.definition
    c.turn.new.state c.turn.new.stack c.in_ok-turn.field-0
    (c.in_ok-turn.ensures.goes c.args.state.now c.args.found.definition c.parts.invariant)

pub close-requires : goal.close-requires
close-requires c = record {
  is = top_kind c.args.context.now.table.now c.args.context.now.modules c.args.state.now c.args.found.definition
      c.turn.new.state c.turn.new.stack
      (went_on c.args.context.now.table.now c.args.context.now.modules c.args.state.now c.args.found.definition
      c.turn.new.state c.turn.new.stack c.in_ok-turn.field-0
      (c.in_ok-turn.ensures.goes c.args.state.now c.args.found.definition c.parts.invariant));
}

pub returns : goal.returns
returns c =
    last_closes c.args.context.now.table.now c.args.context.now.modules c.args.state.now c.args.found.definition
    c.parts.state c.turn.new.state c.parts.stack c.turn.new.stack c.parts.invariant c.in_ok-turn.field-0
    c.if-branch.false c.in_ok-turn.ensures.turned c.close.new.state _ c.close.ensures

pub names_are_apart-requires-clause-table : goal.names_are_apart-requires-clause-table
names_are_apart-requires-clause-table c = c.requires.is.stands.sound.table
