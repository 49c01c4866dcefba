use Rattle.pc_partition.specs.Pairs.{AreSoFar}
use Rattle.pc_partition.proofs.pairs.pairs.Given as goal

abbrev pub invariant-loop-place : goal.invariant-loop-place
invariant-loop-place l = AreSoFar l.a l.b l.place l.keys.items
