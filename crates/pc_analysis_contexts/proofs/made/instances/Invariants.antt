use Rattle.std.proofs.Common.{◌≡◌, List, length}
use Rattle.pc_types.specs.declared.module_record.ModuleRecord.{ModuleRecord}
use Rattle.pc_analysis_contexts.specs.Homes.{AreMade}
use Rattle.pc_analysis_contexts.specs.Indexed.{AreIndexes}
use Rattle.pc_analysis_contexts.specs.Recorded.{AreDefined}
use Rattle.pc_analysis_contexts.proofs.made.instances.Given as goal

abbrev pub invariant-loop-instance : goal.invariant-loop-instance
invariant-loop-instance l = record {
  size : length l.known.items ≡ l.instance-index;
  made : (records : List ModuleRecord) → AreIndexes records l.indexes → AreDefined l.graph records
      → AreMade l.graph records l.known.items;
}
