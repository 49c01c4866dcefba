use Rattle.pc_inline_canon.proofs.SideLemmas.{definition_none, definition_some}
use Rattle.pc_inline_canon.proofs.adapters.side_definition.Goals as goal

pub returns-in_ok-definition-in-Some : goal.returns-in_ok-definition-in-Some
returns-in_ok-definition-in-Some c = definition_some _ _ _ _ _ _ c.in-Some.is c.in_ok-definition-in-Some.ensures

pub returns-in-None : goal.returns-in-None
returns-in-None c = definition_none _ _ _ _ c.in-None.is
