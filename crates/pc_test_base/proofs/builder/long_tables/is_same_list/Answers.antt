use Rattle.pc_test_base.proofs.builder.long_tables.is_same_list.Goals as goal

pub loop-round-init : goal.loop-round-init
loop-round-init c = record { converted = c.new-converted.ensures.converted _ }
