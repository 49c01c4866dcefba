use Rattle.pc_inline_builtins.proofs.CostLemmas.{thread_shaped}
use Rattle.pc_inline_builtins.proofs.RowLemmas.{new_thread_row}
use Rattle.pc_inline_builtins.proofs.steps.step_new_thread.Goals as goal

pub step_made-requires-clause-shaped : goal.step_made-requires-clause-shaped
step_made-requires-clause-shaped c = thread_shaped _ _ _

pub returns-clause-steps : goal.returns-clause-steps
returns-clause-steps c = c.step_made.ensures.steps _ (λ now. new_thread_row _ _ now _ _ _)
