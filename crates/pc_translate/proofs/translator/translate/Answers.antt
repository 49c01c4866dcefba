use Rattle.pc_translate.proofs.CauseLemmas.{gains_in, gains_nothing, program_refused, valid_memory}
use Rattle.pc_translate.proofs.translator.translate.Goals as goal

pub returns-in_err-program-clause-refused : goal.returns-in_err-program-clause-refused
returns-in_err-program-clause-refused c =
    program_refused _ _ _ _ _ _ _ c.from_residual.ensures.1 c.in_err-program.ensures.refused

pub returns-in_err-program-clause-complete : goal.returns-in_err-program-clause-complete
returns-in_err-program-clause-complete c valid =
    valid_memory _ _ _ _ _ _
    (program_refused _ _ _ _ _ _ _ c.from_residual.ensures.1 c.in_err-program.ensures.refused) valid

pub returns-in_err-program-clause-adds : goal.returns-in_err-program-clause-adds
returns-in_err-program-clause-adds c = gains_nothing _ _ _

pub returns-clause-translated : goal.returns-clause-translated
returns-clause-translated c = c.translate_program.ensures.translated _ _ c.in_ok-program.ensures.program

pub returns-clause-refused : goal.returns-clause-refused
returns-clause-refused c = c.translate_program.ensures.refused _ _ c.in_ok-program.ensures.program

pub returns-clause-complete : goal.returns-clause-complete
returns-clause-complete c valid =
    valid_memory _ _ _ _ _ _ (c.translate_program.ensures.refused _ _ c.in_ok-program.ensures.program) valid

pub returns-clause-early : goal.returns-clause-early
returns-clause-early c not_read = absurd (not_read c.in_ok-program.ensures.program.can)

pub returns-clause-adds : goal.returns-clause-adds
returns-clause-adds c =
    gains_in _ _ _ _ _ _ c.in_ok-program.ensures.program _ _ c.translate_program.ensures.adds

pub returns-clause-counts : goal.returns-clause-counts
returns-clause-counts c = c.translate_program.ensures.counts _ _ c.in_ok-program.ensures.program
