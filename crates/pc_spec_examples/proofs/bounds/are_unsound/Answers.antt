use Rattle.std.proofs.Common.{refl}
use Rattle.pc_spec_examples.proofs.OnLiterals.{on_literals}
use Rattle.pc_spec_examples.proofs.bounds.are_unsound.Goals as goal

pub returns-clause-no_payload : goal.returns-clause-no_payload
unfolding on_literals
returns-clause-no_payload c = refl

pub returns-clause-no_end : goal.returns-clause-no_end
unfolding on_literals
returns-clause-no_end c = refl

pub returns-clause-behind_the_end : goal.returns-clause-behind_the_end
unfolding on_literals
returns-clause-behind_the_end c = refl

pub returns-clause-a_module : goal.returns-clause-a_module
unfolding on_literals
returns-clause-a_module c = refl

pub returns-clause-no_version : goal.returns-clause-no_version
unfolding on_literals
returns-clause-no_version c = refl

pub returns-clause-past_the_root : goal.returns-clause-past_the_root
unfolding on_literals
returns-clause-past_the_root c = refl
