use Rattle.pc_types_builder.proofs.steps.entry_type.Goals as goal

pub entry_with-requires-clause-converted : goal.entry_with-requires-clause-converted
entry_with-requires-clause-converted c = c.new-converted.ensures.converted _
