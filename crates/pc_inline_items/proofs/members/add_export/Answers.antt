use Rattle.pc_inline_state.proofs.RefusedLemmas.{memory_lacks}
use Rattle.pc_inline_items.proofs.members.add_export.Goals as goal

pub returns-in_err-data_-clause-lacks : goal.returns-in_err-data_-clause-lacks
returns-in_err-data_-clause-lacks c = memory_lacks _ _ c.from_residual-in_err-data_.ensures.1

pub returns-in_err-insert_first-clause-lacks : goal.returns-in_err-insert_first-clause-lacks
returns-in_err-insert_first-clause-lacks c = memory_lacks _ _ c.from_residual-in_err-insert_first.ensures.1
