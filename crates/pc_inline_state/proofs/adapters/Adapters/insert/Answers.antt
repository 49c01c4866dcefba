use Rattle.pc_inline_state.proofs.KeyLemmas.{key_exact, key_inserted}
use Rattle.pc_inline_state.proofs.adapters.Adapters.insert.Goals as goal

pub returns-clause-ok : goal.returns-clause-ok
returns-clause-ok c i e at =
    key_inserted _ key_exact _ _ _ c.self.view_is c.args.key c.args.adapter c.in_ok-insert.ensures.entries i e at
