use Rattle.pc_tool.proofs.AnswerLemmas.{context_printed, facts_printed, has_items_for, plan_printed}
use Rattle.pc_tool.proofs.answer.print.Goals as goal

pub plan_text-requires : goal.plan_text-requires
plan_text-requires c =
    record { has_items = has_items_for c.requires.0 c.args.plan.now c.args.modules.now c.requires.1 }

pub returns-in-Translate : goal.returns-in-Translate
returns-in-Translate c =
    plan_printed c.args.command c.args.plan.now c.args.modules.now _ c.in-Translate.is c.plan_text.ensures

pub returns-in-Context : goal.returns-in-Context
returns-in-Context c =
    context_printed c.args.command c.args.plan.now c.args.modules.now _ c.in-Context.is c.print_context.ensures

pub returns-in-Facts : goal.returns-in-Facts
returns-in-Facts c =
    facts_printed c.args.command c.args.plan.now c.args.modules.now _ c.in-Facts.is c.facts_text.ensures
