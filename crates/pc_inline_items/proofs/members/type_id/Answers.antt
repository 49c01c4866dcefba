use Rattle.std.proofs.Common.{sym, ◌∙◌}
use Rattle.pc_inline_state.proofs.RefusedLemmas.{free_lacks}
use Rattle.pc_inline_items.proofs.TakesLemmas.{defined_stands, held_there, none_stands_there, takes_converted}
use Rattle.pc_inline_items.proofs.TakesLemmas.{takes_defined}
use Rattle.pc_inline_items.proofs.TakesLemmas.{takes_same}
use Rattle.pc_inline_items.proofs.members.type_id.Goals as goal

pub returns-then-not-is_held-clause-value : goal.returns-then-not-is_held-clause-value
returns-then-not-is_held-clause-value c now at =
    none_stands_there c.args.context.now.table.now c.args.context.now.modules c.args.n c.args.state.now now.scope
    (sym c.is_held.ensures ∙ c.if-not-is_held.true)

pub returns-in_err-ty-clause-takes : goal.returns-in_err-ty-clause-takes
returns-in_err-ty-clause-takes c = takes_converted _ _ _ _ _ _ c.entry_type.ensures.converts c.entry_type.ensures.adds

pub returns-in_err-ty-clause-lacks : goal.returns-in_err-ty-clause-lacks
returns-in_err-ty-clause-lacks c =
    free_lacks _ _ _ _ _ c.from_residual.ensures.1
    (held_there c.args.context.now.table.now c.args.context.now.modules c.args.n
    (sym c.is_held.ensures ∙ c.if-not-is_held.false)) c.in_err-ty.ensures.err

pub returns-in_err-id-clause-takes : goal.returns-in_err-id-clause-takes
returns-in_err-id-clause-takes c =
    takes_same _ _ _ _ _ _ _ _ c.in_err-id.ensures.err
    (takes_converted _ _ _ _ _ _ c.entry_type.ensures.converts c.entry_type.ensures.adds)

pub returns-clause-takes : goal.returns-clause-takes
returns-clause-takes c =
    takes_defined _ _ _ _ _ _ c.entry_type.ensures.converts c.entry_type.ensures.adds c.in_ok-ty.ty _
    c.in_ok-id.ensures.ok c.push_definition.ensures.adds

pub returns-clause-value : goal.returns-clause-value
returns-clause-value c now at =
    defined_stands _ _ _ _ _ _ c.entry_type.ensures.converts c.entry_type.ensures.adds c.in_ok-ty.ty _
    c.in_ok-id.ensures.ok c.args.n c.in_ok-ty.ensures.is c.in_ok-id.id c.in_ok-id.ensures.key now at
