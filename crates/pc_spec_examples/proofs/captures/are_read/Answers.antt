use Rattle.std.proofs.Common.{refl}
use Rattle.pc_spec_examples.proofs.OnLiterals.{on_literals}
use Rattle.pc_spec_examples.proofs.captures.are_read.Goals as goal

pub returns-clause-later_module : goal.returns-clause-later_module
unfolding on_literals
returns-clause-later_module c = refl

pub returns-clause-own_component : goal.returns-clause-own_component
unfolding on_literals
returns-clause-own_component c = refl

pub returns-clause-sibling : goal.returns-clause-sibling
unfolding on_literals
returns-clause-sibling c = refl

pub returns-clause-inner_capture : goal.returns-clause-inner_capture
unfolding on_literals
returns-clause-inner_capture c = refl

pub returns-clause-type_aliases : goal.returns-clause-type_aliases
unfolding on_literals
returns-clause-type_aliases c = refl
