use Rattle.std.proofs.Common.{refl, sym, ◌∙◌}
use Rattle.pc_inline_exports.specs.Building.{adds, enters}
use Rattle.pc_inline_exports.proofs.GoesLemmas.{advances_full, advances_to, enters_unfed}
use Rattle.pc_inline_exports.proofs.build.advance.Goals as goal

pub returns-then-stack-ge-MAX_NODES : goal.returns-then-stack-ge-MAX_NODES
returns-then-stack-ge-MAX_NODES c =
    advances_full c.args.context.now.table.now c.args.context.now.modules c.args.state.now c.args.stack.now c.args.part
    c.if-stack-ge-MAX_NODES.true

pub returns-in_err-enter : goal.returns-in_err-enter
returns-in_err-enter c =
    advances_to _ _ c.args.state.now c.args.state.now c.args.stack.now c.enter.new.stack c.args.part _
    c.if-stack-ge-MAX_NODES.false
    (enters_unfed _ _ c.args.state.now c.args.stack.now c.enter.new.stack c.args.part
    (sym c.nests.ensures ∙ c.if-nests.true) c.names_are_apart.ensures _ c.from_residual.ensures.0 c.from_residual.ensures.1)

pub returns-then-nests : goal.returns-then-nests
returns-then-nests c =
    advances_to _ _ c.args.state.now c.args.state.now c.args.stack.now c.enter.new.stack c.args.part _
    c.if-stack-ge-MAX_NODES.false
    (enters (sym c.nests.ensures ∙ c.if-nests.true) c.names_are_apart.ensures refl c.in_ok-enter.ensures tt)

pub returns : goal.returns
returns c =
    advances_to _ _ c.args.state.now c.add_leaf.new.state c.args.stack.now _ c.args.part _
    c.if-stack-ge-MAX_NODES.false
    (adds (sym c.nests.ensures ∙ c.if-nests.false) c.add_leaf.ensures refl refl)

pub names_are_apart-requires-clause-table : goal.names_are_apart-requires-clause-table
names_are_apart-requires-clause-table c = c.requires.is.stands.sound.table
