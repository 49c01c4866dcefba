use Rattle.std.proofs.Common.{refl}
use Rattle.pc_spec_examples.proofs.OnLiterals.{on_literals}
use Rattle.pc_spec_examples.proofs.exports.are_read.Goals as goal

pub returns-clause-instance_export : goal.returns-clause-instance_export
unfolding on_literals
returns-clause-instance_export c = refl

pub returns-clause-module_and_type : goal.returns-clause-module_and_type
unfolding on_literals
returns-clause-module_and_type c = refl

pub returns-clause-host_tree : goal.returns-clause-host_tree
unfolding on_literals
returns-clause-host_tree c = refl

pub returns-clause-host_function_inside : goal.returns-clause-host_function_inside
unfolding on_literals
returns-clause-host_function_inside c = refl

pub returns-clause-host_function_aliased : goal.returns-clause-host_function_aliased
unfolding on_literals
returns-clause-host_function_aliased c = refl
