use Rattle.std.proofs.Common.{refl}
use Rattle.std.specs.Fmt.{digits}
use Rattle.pc_spec_adapt.specs.Planned.{planned}
use Rattle.pc_test_adapt.proofs.strings_are_moved.Goals as goal

pub returns-clause-asked : goal.returns-clause-asked
unfolding planned
returns-clause-asked c = refl

pub returns-clause-lacks : goal.returns-clause-lacks
unfolding planned
returns-clause-lacks c = refl

pub returns-clause-imports : goal.returns-clause-imports
unfolding planned
returns-clause-imports c = refl

pub returns-clause-core_module : goal.returns-clause-core_module
unfolding digits
returns-clause-core_module c = refl

pub returns-clause-places : goal.returns-clause-places
unfolding planned
returns-clause-places c = refl
