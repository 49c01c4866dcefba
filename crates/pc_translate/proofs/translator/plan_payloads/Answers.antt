use Rattle.pc_translate.proofs.translator.plan_payloads.Goals as goal

pub returns-clause-translated : goal.returns-clause-translated
returns-clause-translated c = c.plan_with.ensures.translated

pub returns-clause-refused : goal.returns-clause-refused
returns-clause-refused c = c.plan_with.ensures.refused
