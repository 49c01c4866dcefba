use Rattle.pc_test_base.proofs.builder.conversions.converts_again.Goals as goal

pub convert_func_with-requires-clause-converted : goal.convert_func_with-requires-clause-converted
convert_func_with-requires-clause-converted c = c.new-converted.ensures.converted _
