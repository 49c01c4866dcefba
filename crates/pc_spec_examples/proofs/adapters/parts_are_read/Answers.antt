use Rattle.std.proofs.Common.{refl}
use Rattle.pc_spec_examples.proofs.OnLiterals.{on_literals}
use Rattle.pc_spec_examples.proofs.adapters.parts_are_read.Goals as goal

pub returns-clause-realloc_is_an_adapter : goal.returns-clause-realloc_is_an_adapter
unfolding on_literals
returns-clause-realloc_is_an_adapter c = refl

pub returns-clause-destructor : goal.returns-clause-destructor
unfolding on_literals
returns-clause-destructor c = refl
