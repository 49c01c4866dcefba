use Rattle.std.proofs.Common.{refl}
use Rattle.pc_spec_examples.proofs.OnLiterals.{on_literals}
use Rattle.pc_spec_examples.proofs.modules.are_read.Goals as goal

pub returns-clause-host_items : goal.returns-clause-host_items
unfolding on_literals
returns-clause-host_items c = refl

pub returns-clause-argument_missing : goal.returns-clause-argument_missing
unfolding on_literals
returns-clause-argument_missing c = refl

pub returns-clause-memory_for_a_function : goal.returns-clause-memory_for_a_function
unfolding on_literals
returns-clause-memory_for_a_function c = refl

pub returns-clause-idle_argument : goal.returns-clause-idle_argument
unfolding on_literals
returns-clause-idle_argument c = refl

pub returns-clause-alias_of_another_kind : goal.returns-clause-alias_of_another_kind
unfolding on_literals
returns-clause-alias_of_another_kind c = refl

pub returns-clause-alias_missing : goal.returns-clause-alias_missing
unfolding on_literals
returns-clause-alias_missing c = refl

pub returns-clause-bag : goal.returns-clause-bag
unfolding on_literals
returns-clause-bag c = refl

pub returns-clause-module_type : goal.returns-clause-module_type
unfolding on_literals
returns-clause-module_type c = refl

pub returns-clause-instance_type : goal.returns-clause-instance_type
unfolding on_literals
returns-clause-instance_type c = refl

pub returns-clause-instance_item : goal.returns-clause-instance_item
unfolding on_literals
returns-clause-instance_item c = refl
