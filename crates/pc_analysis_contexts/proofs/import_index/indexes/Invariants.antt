use Rattle.std.proofs.Common.{take}
use Rattle.pc_analysis_contexts.specs.Indexed.{AreIndexes}
use Rattle.pc_analysis_contexts.specs.Recorded.{records_of}
use Rattle.pc_analysis_contexts.proofs.import_index.indexes.Given as goal

abbrev pub invariant-loop-held : goal.invariant-loop-held
invariant-loop-held l = AreIndexes (take l.held-index (records_of l.modules)) l.found.items
