use Rattle.std.proofs.Common.{rules}
use Rattle.pc_tool.proofs.AnswerLemmas.{made_answers, fault_answers}
use Rattle.pc_tool.proofs.answer.answer_input.Goals as goal

pub returns-in_ok-print-in-Ok : goal.returns-in_ok-print-in-Ok
returns-in_ok-print-in-Ok c =
    made_answers _ _ _ _ c.in_ok-print-in-Ok.field-0 c.in-Ok.ensures.ok c.in_ok-print-in-Ok.ensures

pub returns-in_ok-explain-in-Err : goal.returns-in_ok-explain-in-Err
returns-in_ok-explain-in-Err c =
    fault_answers _ _ c.in-Err.error c.in_ok-explain-in-Err.field-0 (search rules)
    c.in-Err.ensures.err c.in_ok-explain-in-Err.ensures
