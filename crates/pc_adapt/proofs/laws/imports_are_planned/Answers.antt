use Rattle.pc_adapt.proofs.PlannedLemmas.{planned_alike}
use Rattle.pc_adapt.proofs.laws.imports_are_planned.Goals as goal

pub returns : goal.returns
returns c g a x v lift lower clear at means = planned_alike g a x v lift lower clear at means
