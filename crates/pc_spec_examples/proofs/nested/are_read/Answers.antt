use Rattle.std.proofs.Common.{refl}
use Rattle.pc_spec_examples.proofs.OnLiterals.{on_literals}
use Rattle.pc_spec_examples.proofs.nested.are_read.Goals as goal

pub returns-clause-two_children : goal.returns-clause-two_children
unfolding on_literals
returns-clause-two_children c = refl

pub returns-clause-instantiated_twice : goal.returns-clause-instantiated_twice
unfolding on_literals
returns-clause-instantiated_twice c = refl

pub returns-clause-type_import : goal.returns-clause-type_import
unfolding on_literals
returns-clause-type_import c = refl

pub returns-clause-argument_of_another_kind : goal.returns-clause-argument_of_another_kind
unfolding on_literals
returns-clause-argument_of_another_kind c = refl

pub returns-clause-component_missing : goal.returns-clause-component_missing
unfolding on_literals
returns-clause-component_missing c = refl

pub returns-clause-capture : goal.returns-clause-capture
unfolding on_literals
returns-clause-capture c = refl

pub returns-clause-bad_capture : goal.returns-clause-bad_capture
unfolding on_literals
returns-clause-bad_capture c = refl

pub returns-clause-self_application : goal.returns-clause-self_application
unfolding on_literals
returns-clause-self_application c = refl
