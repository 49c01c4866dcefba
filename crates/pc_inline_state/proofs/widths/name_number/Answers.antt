use Rattle.pc_inline_state.proofs.FoundLemmas.{item_number}
use Rattle.pc_inline_state.proofs.widths.name_number.Goals as goal

pub returns : goal.returns
returns c =
    item_number _ _ c.args.state.now c.requires.table c.requires.placed c.in_ok-export.export c.args.id
    c.in_ok-export.ensures _ c.if-export-entry.false _ c.export_number.ensures
