use Rattle.pc_adapt_modules.proofs.EntityLemmas.{entities_planned}
use Rattle.pc_adapt_modules.proofs.laws.entities_are_planned.Goals as goal

pub returns : goal.returns
returns c g a x v lift lower clear at means = entities_planned g a x v lift lower clear at means
