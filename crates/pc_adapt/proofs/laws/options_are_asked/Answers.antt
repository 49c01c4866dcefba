use Rattle.pc_adapt.proofs.PlannedLemmas.{asked_alike}
use Rattle.pc_adapt.proofs.laws.options_are_asked.Goals as goal

pub returns : goal.returns
returns c g a x v lift lower at means = asked_alike g a x v lift lower at means
