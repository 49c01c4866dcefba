use Rattle.pc_adapt_laws.proofs.FineLemmas.{planned_names}
use Rattle.pc_adapt_laws.proofs.what_is_planned_is_named.Goals as goal

pub returns : goal.returns
returns c lift lower b lw ww v x y inside names = planned_names lift lower b lw ww v x y inside names
