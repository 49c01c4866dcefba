use Rattle.std.proofs.Common.{refl}
use Rattle.pc_spec_examples.proofs.OnLiterals.{on_literals}
use Rattle.pc_spec_examples.proofs.builtins.others_are_read.Goals as goal

pub returns-clause-other_builtins : goal.returns-clause-other_builtins
unfolding on_literals
returns-clause-other_builtins c = refl

pub returns-clause-slot_twice : goal.returns-clause-slot_twice
unfolding on_literals
returns-clause-slot_twice c = refl

pub returns-clause-unknown_resource : goal.returns-clause-unknown_resource
unfolding on_literals
returns-clause-unknown_resource c = refl

pub returns-clause-no_stream : goal.returns-clause-no_stream
unfolding on_literals
returns-clause-no_stream c = refl

pub returns-clause-no_signature : goal.returns-clause-no_signature
unfolding on_literals
returns-clause-no_signature c = refl

pub returns-clause-no_memory : goal.returns-clause-no_memory
unfolding on_literals
returns-clause-no_memory c = refl

pub returns-clause-no_table : goal.returns-clause-no_table
unfolding on_literals
returns-clause-no_table c = refl

pub returns-clause-no_result : goal.returns-clause-no_result
unfolding on_literals
returns-clause-no_result c = refl
