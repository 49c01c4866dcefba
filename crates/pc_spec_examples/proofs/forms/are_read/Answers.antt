use Rattle.std.proofs.Common.{refl}
use Rattle.pc_spec_examples.proofs.OnLiterals.{on_literals}
use Rattle.pc_spec_examples.proofs.forms.are_read.Goals as goal

pub returns-clause-signatures : goal.returns-clause-signatures
unfolding on_literals
returns-clause-signatures c = refl

pub returns-clause-entries : goal.returns-clause-entries
unfolding on_literals
returns-clause-entries c = refl

pub returns-clause-names : goal.returns-clause-names
unfolding on_literals
returns-clause-names c = refl

pub returns-clause-canonical : goal.returns-clause-canonical
unfolding on_literals
returns-clause-canonical c = refl

pub returns-clause-payloads : goal.returns-clause-payloads
unfolding on_literals
returns-clause-payloads c = refl

pub returns-clause-inputs : goal.returns-clause-inputs
unfolding on_literals
returns-clause-inputs c = refl
