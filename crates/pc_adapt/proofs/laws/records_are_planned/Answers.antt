use Rattle.pc_adapt.proofs.PlannedLemmas.{recorded_alike}
use Rattle.pc_adapt.proofs.laws.records_are_planned.Goals as goal

pub returns : goal.returns
returns c g a x v m f first at means = recorded_alike g a x v m f first at means
