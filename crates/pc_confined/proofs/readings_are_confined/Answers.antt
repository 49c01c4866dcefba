use Rattle.pc_confined.proofs.ConfinedLemmas.{of_body}
use Rattle.pc_confined.proofs.readings_are_confined.Goals as goal

pub returns : goal.returns
returns c = of_body
