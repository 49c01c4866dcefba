use Rattle.std.proofs.Common.{refl}
use Rattle.pc_spec_examples.proofs.OnLiterals.{on_literals}
use Rattle.pc_spec_examples.proofs.adapters.are_read.Goals as goal

pub returns-clause-two_adapters : goal.returns-clause-two_adapters
unfolding on_literals
returns-clause-two_adapters c = refl

pub returns-clause-chain : goal.returns-clause-chain
unfolding on_literals
returns-clause-chain c = refl

pub returns-clause-async_lower : goal.returns-clause-async_lower
unfolding on_literals
returns-clause-async_lower c = refl

pub returns-clause-equal_adapters : goal.returns-clause-equal_adapters
unfolding on_literals
returns-clause-equal_adapters c = refl
