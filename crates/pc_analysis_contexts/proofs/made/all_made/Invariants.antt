use Rattle.std.proofs.Common.{◌≡◌, ◌+◌, List, length}
use Rattle.pc_types.specs.declared.module_record.ModuleRecord.{ModuleRecord}
use Rattle.pc_analysis_contexts.specs.Homes.{AreMade}
use Rattle.pc_analysis_contexts.specs.Indexed.{AreIndexes}
use Rattle.pc_analysis_contexts.specs.Recorded.{AreDefined}
use Rattle.pc_analysis_contexts.proofs.made.all_made.Given as goal

abbrev pub invariant-loop-adapters : goal.invariant-loop-adapters
invariant-loop-adapters l = record {
  size : length l.known.items ≡ length l.graph.instances + l.adapters-index;
  made : (records : List ModuleRecord) → AreIndexes records l.indexes → AreDefined l.graph records
      → AreMade l.graph records l.known.items;
}
