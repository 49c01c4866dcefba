use Rattle.std.proofs.Common.{◌∙◌}
use Rattle.pc_inline_state.proofs.KeyLemmas.{export_exact, key_found}
use Rattle.pc_inline_state.proofs.host_items.HostItems.get.Goals as goal

pub returns : goal.returns
returns c = key_found _ export_exact _ _ c.self.view_is c.args.export _ (c.copied.ensures ∙ c.get.ensures.value)
