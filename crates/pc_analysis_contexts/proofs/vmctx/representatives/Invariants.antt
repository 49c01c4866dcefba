use Rattle.pc_partition.specs.Partition.{representative}
use Rattle.pc_spec_wiring.specs.Sharing.{AreRecorded}
use Rattle.pc_analysis_contexts.specs.Shared.{recorded_in}
use Rattle.pc_analysis_contexts.proofs.vmctx.representatives.Given as goal

abbrev pub invariant-loop-place : goal.invariant-loop-place
invariant-loop-place l = AreRecorded l.place (representative l.partition) (recorded_in l.facts)
