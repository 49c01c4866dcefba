use Rattle.std.proofs.Common.{◌≡◌, replicate}
use Rattle.pc_partition.specs.declared.partition.SameVmctxPartition.TheVariants as variant
use Rattle.pc_analysis_contexts.proofs.partitions.tops.Given as goal

abbrev pub invariant-loop-place : goal.invariant-loop-place
invariant-loop-place l = l.partitions.items ≡ replicate l._place variant.Top
