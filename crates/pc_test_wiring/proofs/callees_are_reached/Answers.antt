use Rattle.pc_test_wiring.proofs.Chain.{argument, callee, further}
use Rattle.pc_test_wiring.proofs.callees_are_reached.Goals as goal

pub returns-clause-callee : goal.returns-clause-callee
returns-clause-callee c = callee

pub returns-clause-argument : goal.returns-clause-argument
returns-clause-argument c = argument

pub returns-clause-further : goal.returns-clause-further
returns-clause-further c = further
