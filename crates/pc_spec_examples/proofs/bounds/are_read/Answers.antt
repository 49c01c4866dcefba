use Rattle.std.proofs.Common.{refl}
use Rattle.pc_spec_examples.proofs.OnLiterals.{on_literals}
use Rattle.pc_spec_examples.proofs.bounds.are_read.Goals as goal

pub returns-clause-too_many_names : goal.returns-clause-too_many_names
unfolding on_literals
returns-clause-too_many_names c = refl

pub returns-clause-below_the_bound : goal.returns-clause-below_the_bound
unfolding on_literals
returns-clause-below_the_bound c = refl

pub returns-clause-at_the_bound : goal.returns-clause-at_the_bound
unfolding on_literals
returns-clause-at_the_bound c = refl

pub returns-clause-shared_instances : goal.returns-clause-shared_instances
unfolding on_literals
returns-clause-shared_instances c = refl

pub returns-clause-deep_refusal : goal.returns-clause-deep_refusal
unfolding on_literals
returns-clause-deep_refusal c = refl

pub returns-clause-two_thousand : goal.returns-clause-two_thousand
unfolding on_literals
returns-clause-two_thousand c = refl
