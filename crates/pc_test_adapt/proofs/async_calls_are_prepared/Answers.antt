use Rattle.std.proofs.Common.{refl}
use Rattle.pc_spec_adapt.specs.Planned.{planned}
use Rattle.pc_test_adapt.proofs.async_calls_are_prepared.Goals as goal

pub returns : goal.returns
unfolding planned
returns c = record { imports = refl }
