use Rattle.std.proofs.Common.{refl}
use Rattle.pc_spec_examples.proofs.OnLiterals.{on_literals}
use Rattle.pc_spec_examples.proofs.resources.are_read.Goals as goal

pub returns-clause-given_resource : goal.returns-clause-given_resource
unfolding on_literals
returns-clause-given_resource c = refl

pub returns-clause-exported_resource : goal.returns-clause-exported_resource
unfolding on_literals
returns-clause-exported_resource c = refl

pub returns-clause-made_twice : goal.returns-clause-made_twice
unfolding on_literals
returns-clause-made_twice c = refl

pub returns-clause-declared_again : goal.returns-clause-declared_again
unfolding on_literals
returns-clause-declared_again c = refl

pub returns-clause-forgotten : goal.returns-clause-forgotten
unfolding on_literals
returns-clause-forgotten c = refl

pub returns-clause-not_exported : goal.returns-clause-not_exported
unfolding on_literals
returns-clause-not_exported c = refl
