use Rattle.pc_inline_builtins.proofs.CostLemmas.{return_shaped, returned_adds}
use Rattle.pc_inline_builtins.proofs.RowLemmas.{task_return_row}
use Rattle.pc_inline_builtins.proofs.steps.step_task_return.Goals as goal

pub step_made-requires-clause-shaped : goal.step_made-requires-clause-shaped
step_made-requires-clause-shaped c = return_shaped _ _ _

pub returns-clause-steps : goal.returns-clause-steps
returns-clause-steps c = c.step_made.ensures.steps _ (λ now. task_return_row _ _ now _ _ _)

pub returns-clause-adds : goal.returns-clause-adds
returns-clause-adds c = returned_adds _ _ _ _ c.step_made.ensures.adds
