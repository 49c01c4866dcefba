use Rattle.pc_inline_state.proofs.KeyLemmas.{instance_entity_exact, key_inserted}
use Rattle.pc_inline_state.proofs.entity_items.EntityItems.insert.Goals as goal

pub returns-clause-ok : goal.returns-clause-ok
returns-clause-ok c i e at =
    key_inserted _ instance_entity_exact _ _ _ c.self.view_is c.args.entity c.args.id c.in_ok-insert.ensures.entries i e
    at
