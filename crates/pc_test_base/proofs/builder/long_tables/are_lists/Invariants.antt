use Rattle.pc_types_builder.specs.Converted.{AreConverted}
use Rattle.pc_test_base.proofs.builder.long_tables.are_lists.Given as goal

abbrev pub invariant-loop-n : goal.invariant-loop-n
invariant-loop-n l = record { converted : AreConverted l.types l.table l.converted }
