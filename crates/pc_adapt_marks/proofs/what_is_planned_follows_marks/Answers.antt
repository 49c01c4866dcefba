use Rattle.pc_adapt_marks.proofs.PlannedLemmas.{planned_mapped}
use Rattle.pc_adapt_marks.proofs.what_is_planned_follows_marks.Goals as goal

pub returns : goal.returns
returns c f lift lower t lw ww v = planned_mapped f lift lower t lw ww v
