use Rattle.pc_inline_exports.proofs.ItemLemmas.{one_reached, unmade}
use Rattle.pc_inline_exports.proofs.item.reach_leaf.Goals as goal

pub returns-in_err-item : goal.returns-in_err-item
returns-in_err-item c =
    unmade _ _ _ _ _ _ _ c.in_err-item.was c.leaf_item.ensures _ c.from_residual.ensures.0 c.from_residual.ensures.1

pub returns : goal.returns
returns c = one_reached _ _ _ _ _ _ _ _ c.in_ok-item.was c.leaf_item.ensures _ c.push_item.ensures
