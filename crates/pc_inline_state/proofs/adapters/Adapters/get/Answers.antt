use Rattle.std.proofs.Common.{◌∙◌}
use Rattle.pc_inline_state.proofs.KeyLemmas.{key_exact, key_found}
use Rattle.pc_inline_state.proofs.adapters.Adapters.get.Goals as goal

pub returns : goal.returns
returns c = key_found _ key_exact _ _ c.self.view_is c.args.key _ (c.copied.ensures ∙ c.get.ensures.value)
