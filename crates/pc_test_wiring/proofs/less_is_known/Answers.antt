use Rattle.pc_test_wiring.proofs.OneWay.{made_two_ways, none_if_exported}
use Rattle.pc_test_wiring.proofs.less_is_known.Goals as goal

pub returns-clause-made_two_ways : goal.returns-clause-made_two_ways
returns-clause-made_two_ways c = made_two_ways

pub returns-clause-exported : goal.returns-clause-exported
returns-clause-exported c = none_if_exported
