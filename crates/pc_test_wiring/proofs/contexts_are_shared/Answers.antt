use Rattle.pc_test_wiring.proofs.Apart.{apart}
use Rattle.pc_test_wiring.proofs.Contexts.{none_if_exported, together}
use Rattle.pc_test_wiring.proofs.contexts_are_shared.Goals as goal

pub returns-clause-together : goal.returns-clause-together
returns-clause-together c = together

pub returns-clause-exported : goal.returns-clause-exported
returns-clause-exported c = none_if_exported

pub returns-clause-apart : goal.returns-clause-apart
returns-clause-apart c = apart
