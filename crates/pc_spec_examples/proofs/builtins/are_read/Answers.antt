use Rattle.std.proofs.Common.{refl}
use Rattle.pc_spec_examples.proofs.OnLiterals.{on_literals}
use Rattle.pc_spec_examples.proofs.builtins.are_read.Goals as goal

pub returns-clause-two_drops : goal.returns-clause-two_drops
unfolding on_literals
returns-clause-two_drops c = refl

pub returns-clause-slot_two : goal.returns-clause-slot_two
unfolding on_literals
returns-clause-slot_two c = refl

pub returns-clause-typed_builtins : goal.returns-clause-typed_builtins
unfolding on_literals
returns-clause-typed_builtins c = refl

pub returns-clause-task_builtins : goal.returns-clause-task_builtins
unfolding on_literals
returns-clause-task_builtins c = refl
