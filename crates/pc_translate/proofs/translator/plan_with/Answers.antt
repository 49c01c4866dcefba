use Rattle.pc_translate.proofs.CauseLemmas.{program_refused}
use Rattle.pc_translate.proofs.SomeTypesLemmas.{plan_alone, refusal_alone}
use Rattle.pc_translate.proofs.translator.plan_with.Goals as goal

pub returns-in_err-program-clause-refused : goal.returns-in_err-program-clause-refused
returns-in_err-program-clause-refused c =
    refusal_alone _ _ _ _ _ c.requires.fresh _
    (program_refused _ _ _ _ _ _ _ c.from_residual.ensures.1 c.in_err-program.ensures.refused)

-- what is left out here is read off the clause; a `Translates` that is written out would be compared field by field
pub returns-clause-translated : goal.returns-clause-translated
returns-clause-translated c =
    let is = c.in_ok-program.ensures.program in
    plan_alone _ _ _ _ _ _ c.requires.fresh c.types_are_distinct.ensures _
    (c.translate_program-translated.ensures.counts _ _ is) (c.translate_program-translated.ensures.translated _ _ is)

pub returns-clause-refused : goal.returns-clause-refused
returns-clause-refused c =
    refusal_alone _ _ _ _ _ c.requires.fresh _
    (c.translate_program-translated.ensures.refused _ _ c.in_ok-program.ensures.program)
