use Rattle.pc_analysis_contexts.proofs.StartLemmas.{AreParted}
use Rattle.pc_analysis_contexts.proofs.partitions.start.Given as goal

abbrev pub invariant-loop-export : goal.invariant-loop-export
invariant-loop-export l = AreParted l.graph.export_items l.export-index l.count l.partitions.items
