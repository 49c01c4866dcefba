use Rattle.pc_inline_state.proofs.KeyLemmas.{export_exact, key_inserted}
use Rattle.pc_inline_state.proofs.host_items.HostItems.insert.Goals as goal

pub returns-clause-ok : goal.returns-clause-ok
returns-clause-ok c i e at =
    key_inserted _ export_exact _ _ _ c.self.view_is c.args.export c.args.id c.in_ok-insert.ensures.entries i e at
