use Rattle.std.proofs.Common.{refl}
use Rattle.pc_spec_examples.proofs.OnLiterals.{on_literals}
use Rattle.pc_spec_examples.proofs.flat.are_read.Goals as goal

pub returns-clause-smallest : goal.returns-clause-smallest
unfolding on_literals
returns-clause-smallest c = refl

pub returns-clause-smallest_total : goal.returns-clause-smallest_total
unfolding on_literals
returns-clause-smallest_total c = refl

pub returns-clause-empty_root : goal.returns-clause-empty_root
unfolding on_literals
returns-clause-empty_root c = refl

pub returns-clause-post_return : goal.returns-clause-post_return
unfolding on_literals
returns-clause-post_return c = refl

pub returns-clause-globals_at_the_limit : goal.returns-clause-globals_at_the_limit
unfolding on_literals
returns-clause-globals_at_the_limit c = refl

pub returns-clause-core_function_missing : goal.returns-clause-core_function_missing
unfolding on_literals
returns-clause-core_function_missing c = refl

pub returns-clause-lift_type_of_another_kind : goal.returns-clause-lift_type_of_another_kind
unfolding on_literals
returns-clause-lift_type_of_another_kind c = refl

pub returns-clause-limit_zero : goal.returns-clause-limit_zero
unfolding on_literals
returns-clause-limit_zero c = refl
