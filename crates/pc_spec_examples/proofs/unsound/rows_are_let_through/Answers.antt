use Rattle.std.proofs.Common.{refl}
use Rattle.pc_spec_examples.proofs.OnLiterals.{on_literals}
use Rattle.pc_spec_examples.proofs.unsound.rows_are_let_through.Goals as goal

pub returns-clause-smallest : goal.returns-clause-smallest
unfolding on_literals
returns-clause-smallest c = refl

pub returns-clause-globals_at_the_limit : goal.returns-clause-globals_at_the_limit
unfolding on_literals
returns-clause-globals_at_the_limit c = refl

pub returns-clause-two_adapters : goal.returns-clause-two_adapters
unfolding on_literals
returns-clause-two_adapters c = refl

pub returns-clause-intrinsic_aliased : goal.returns-clause-intrinsic_aliased
unfolding on_literals
returns-clause-intrinsic_aliased c = refl

pub returns-clause-bad_capture : goal.returns-clause-bad_capture
unfolding on_literals
returns-clause-bad_capture c = refl
