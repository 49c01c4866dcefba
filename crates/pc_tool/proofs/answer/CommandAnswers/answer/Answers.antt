use Rattle.std.proofs.Common.{◌∙◌}
use Rattle.std.proofs.lemmas.Result.{IfOk-weaker}
use Rattle.pc_tool.proofs.AnswerLemmas.{bytes_told, not_json_answers, bad_form_answers}
use Rattle.pc_tool.proofs.answer.CommandAnswers.answer.Goals as goal

pub returns-in-Ok : goal.returns-in-Ok
returns-in-Ok c =
    IfOk-weaker c.answer_input.result _ _ (λ a h. bytes_told _ _ _ c.in-Ok.ensures.ok a h) c.answer_input.ensures

pub returns-in_ok-fixed-in-Err-NotJson : goal.returns-in_ok-fixed-in-Err-NotJson
returns-in_ok-fixed-in-Err-NotJson c =
    not_json_answers _ _ _ (c.decode.ensures.not_json (cc (c.in-Err-NotJson.is, c.in-Err-NotJson.field-0-is)))
    (c.in_ok-fixed-in-Err-NotJson.ensures ∙ c.not_json_text.ensures)

pub returns-in_ok-fixed-in-Err-BadForm : goal.returns-in_ok-fixed-in-Err-BadForm
returns-in_ok-fixed-in-Err-BadForm c =
    bad_form_answers _ _ _ (c.decode.ensures.bad_form (cc (c.in-Err-BadForm.is, c.in-Err-BadForm.field-0-is)))
    (c.in_ok-fixed-in-Err-BadForm.ensures ∙ c.bad_form_text.ensures)
