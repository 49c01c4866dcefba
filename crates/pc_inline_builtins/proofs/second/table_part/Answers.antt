use Rattle.pc_inline_builtins.proofs.TableLemmas.{table_part_stands}
use Rattle.pc_inline_builtins.proofs.second.table_part.Goals as goal

pub returns-clause-stands : goal.returns-clause-stands
returns-clause-stands c v stands =
    table_part_stands _ _ _ c.table_slot.ensures.prepares.keeps _ _ c.in_ok-table_slot.ensures.slot v stands
