use Rattle.pc_adapt_modules.proofs.GroupedLemmas.{grouped}
use Rattle.pc_adapt_modules.proofs.laws.modules_are_grouped.Goals as goal

pub returns : goal.returns
returns c g h runs ordered are good = grouped g h runs ordered are good
