use Rattle.pc_test_wiring.proofs.Exact.{exact}
use Rattle.pc_test_wiring.proofs.Lines.{callee_0, callee_1, lowered_0, lowered_1, trap_0, trap_1}
use Rattle.pc_test_wiring.proofs.Lines.{lift_flags_0, lift_flags_1, lower_flags_0, lower_flags_1}
use Rattle.pc_test_wiring.proofs.OneWay.{none_is_ambiguous}
use Rattle.pc_test_wiring.proofs.two_adapters_tell.Goals as goal

pub returns-clause-none_is_ambiguous : goal.returns-clause-none_is_ambiguous
returns-clause-none_is_ambiguous c = none_is_ambiguous

pub returns-clause-lowered_0 : goal.returns-clause-lowered_0
returns-clause-lowered_0 c = lowered_0

pub returns-clause-lowered_1 : goal.returns-clause-lowered_1
returns-clause-lowered_1 c = lowered_1

pub returns-clause-callee_0 : goal.returns-clause-callee_0
returns-clause-callee_0 c = callee_0

pub returns-clause-trap_0 : goal.returns-clause-trap_0
returns-clause-trap_0 c = trap_0

pub returns-clause-callee_1 : goal.returns-clause-callee_1
returns-clause-callee_1 c = callee_1

pub returns-clause-trap_1 : goal.returns-clause-trap_1
returns-clause-trap_1 c = trap_1

pub returns-clause-lower_flags_0 : goal.returns-clause-lower_flags_0
returns-clause-lower_flags_0 c = lower_flags_0

pub returns-clause-lift_flags_0 : goal.returns-clause-lift_flags_0
returns-clause-lift_flags_0 c = lift_flags_0

pub returns-clause-lower_flags_1 : goal.returns-clause-lower_flags_1
returns-clause-lower_flags_1 c = lower_flags_1

pub returns-clause-lift_flags_1 : goal.returns-clause-lift_flags_1
returns-clause-lift_flags_1 c = lift_flags_1

pub returns-clause-exact : goal.returns-clause-exact
returns-clause-exact c = exact
