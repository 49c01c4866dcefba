use Rattle.std.proofs.Common.{◌≡◌, map, take}
use Rattle.pc_analysis_contexts.specs.Keys.{key_at}
use Rattle.pc_analysis_contexts.proofs.partitions.keys_at.Given as goal

abbrev pub invariant-loop-place : goal.invariant-loop-place
invariant-loop-place l = l.found.items ≡ map (key_at l.keys) (take l.place-index l.places)
