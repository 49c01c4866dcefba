use Rattle.pc_inline_names.proofs.AddedLemmas.{no_names}
use Rattle.pc_inline_names.proofs.program_names.ProgramNames.new.Goals as goal

pub add_program-requires : goal.add_program-requires
add_program-requires c = record { names = no_names c.new-texts.result c.new-texts.ensures }

pub invariant_of-result : goal.invariant_of-result
invariant_of-result c = (c.in_ok-tables.ensures.names, c.in_ok-tables.ensures.tables)
