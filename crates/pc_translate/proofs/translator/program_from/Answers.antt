use Rattle.pc_translate.proofs.CauseLemmas.{same_program, same_stop}
use Rattle.pc_translate.proofs.translator.program_from.Goals as goal

pub returns-clause-program : goal.returns-clause-program
returns-clause-program c = same_program _ _ _ _ _ c.as_slice.ensures c.program_of.result c.program_of.ensures.program

pub returns-clause-refused : goal.returns-clause-refused
returns-clause-refused c = same_stop _ _ _ _ _ c.as_slice.ensures c.program_of.result c.program_of.ensures.refused
