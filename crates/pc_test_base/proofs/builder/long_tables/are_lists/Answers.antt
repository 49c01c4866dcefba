use Rattle.pc_test_base.proofs.builder.long_tables.are_lists.Goals as goal

pub loop-n-init : goal.loop-n-init
loop-n-init c = record { converted = c.new-converted.ensures.converted _ }
