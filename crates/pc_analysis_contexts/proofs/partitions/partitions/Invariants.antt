use Rattle.pc_analysis_contexts.specs.Recorded.{records_of}
use Rattle.pc_analysis_contexts.specs.Shared.{ArePartitionsTo}
use Rattle.pc_analysis_contexts.proofs.partitions.partitions.Given as goal

abbrev pub invariant-loop-made : goal.invariant-loop-made
invariant-loop-made l = ArePartitionsTo l.graph (records_of l.modules) l.made-index l.partitions.items
