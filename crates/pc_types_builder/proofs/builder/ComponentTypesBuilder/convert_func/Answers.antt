use Rattle.pc_types_builder.proofs.builder.ComponentTypesBuilder.convert_func.Goals as goal

pub convert_func_with-requires-clause-converted : goal.convert_func_with-requires-clause-converted
convert_func_with-requires-clause-converted c = c.new-converted.ensures.converted _
