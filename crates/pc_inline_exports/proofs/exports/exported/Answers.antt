use Rattle.pc_inline_exports.proofs.FoundLemmas.{finds_item, other_kind}
use Rattle.pc_inline_exports.proofs.exports.exported.Goals as goal

pub returns-in_default : goal.returns-in_default
returns-in_default c =
    finds_item _ _ _ _ _ _ (other_kind _ c.in_default.not-Type_) _ c.item_definition.ensures
