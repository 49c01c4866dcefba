use Rattle.pc_spec_reading.proofs.SameValueLemmas.{values_one}
use Rattle.pc_spec_reading.proofs.laws.values_are_one.Goals as goal

pub returns : goal.returns
returns c = values_one
