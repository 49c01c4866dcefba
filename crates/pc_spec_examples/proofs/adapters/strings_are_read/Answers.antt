use Rattle.std.proofs.Common.{refl}
use Rattle.pc_spec_examples.proofs.OnLiterals.{on_literals}
use Rattle.pc_spec_examples.proofs.adapters.strings_are_read.Goals as goal

pub returns-clause-strings : goal.returns-clause-strings
unfolding on_literals
returns-clause-strings c = refl

pub returns-clause-strings_without_realloc : goal.returns-clause-strings_without_realloc
unfolding on_literals
returns-clause-strings_without_realloc c = refl
