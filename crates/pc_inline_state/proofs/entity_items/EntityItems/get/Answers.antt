use Rattle.std.proofs.Common.{◌∙◌}
use Rattle.pc_inline_state.proofs.KeyLemmas.{instance_entity_exact, key_found}
use Rattle.pc_inline_state.proofs.entity_items.EntityItems.get.Goals as goal

pub returns : goal.returns
returns c =
    key_found _ instance_entity_exact _ _ c.self.view_is c.args.entity _ (c.copied.ensures ∙ c.get.ensures.value)
