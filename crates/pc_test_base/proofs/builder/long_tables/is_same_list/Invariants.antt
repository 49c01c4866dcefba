use Rattle.pc_types_builder.specs.Converted.{AreConverted}
use Rattle.pc_test_base.proofs.builder.long_tables.is_same_list.Given as goal

abbrev pub invariant-loop-round : goal.invariant-loop-round
invariant-loop-round l = record { converted : AreConverted l.types l.table l.converted }
