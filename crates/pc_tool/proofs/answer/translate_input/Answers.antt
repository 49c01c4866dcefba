use Rattle.pc_tool.proofs.AnswerLemmas.{plans, errs}
use Rattle.pc_tool.proofs.answer.translate_input.Goals as goal

pub returns-clause-ok : goal.returns-clause-ok
returns-clause-ok c =
    plans c.args.input _ c.exposed_name.ensures _ c.plan_payloads.ensures.translated

pub returns-clause-err : goal.returns-clause-err
returns-clause-err c =
    errs c.args.input _ c.exposed_name.ensures _ c.plan_payloads.ensures.refused
