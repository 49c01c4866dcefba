use Rattle.pc_tool.proofs.AnswerLemmas.{sizes_printed}
use Rattle.pc_tool.proofs.answer.print_context.Goals as goal

pub returns : goal.returns
returns c = sizes_printed _ _ _ _ _ c.size_for-four.ensures c.size_for-eight.ensures c.context_text.ensures
