use Rattle.pc_adapt_laws.proofs.ShortLemmas.{planned_few}
use Rattle.pc_adapt_laws.proofs.what_is_planned_is_short.Goals as goal

pub returns : goal.returns
returns c lift lower b lw ww v = planned_few lift lower b lw ww v
