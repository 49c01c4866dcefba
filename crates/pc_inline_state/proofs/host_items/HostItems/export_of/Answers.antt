use Rattle.std.proofs.Common.{sym, ◌∙◌}
use Rattle.pc_inline_state.proofs.KeyLemmas.{entry_of}
use Rattle.pc_inline_state.proofs.host_items.HostItems.export_of.Goals as goal

pub returns-then-eq : goal.returns-then-eq
returns-then-eq c =
    entry_of _ _ c.self.view_is _ _ c.in_ok-export.made.now c.args.id c.in_ok-export.ensures.entry
    (sym c.eq.ensures ∙ c.if-eq.true)
