use Rattle.pc_confined.proofs.ConfinedLemmas.{of_list}
use Rattle.pc_confined.proofs.lists_are_confined.Goals as goal

pub returns : goal.returns
returns c = of_list
