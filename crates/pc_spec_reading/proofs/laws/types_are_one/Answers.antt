use Rattle.pc_spec_reading.proofs.SameTypeLemmas.{types_one}
use Rattle.pc_spec_reading.proofs.laws.types_are_one.Goals as goal

pub returns : goal.returns
returns c = types_one
