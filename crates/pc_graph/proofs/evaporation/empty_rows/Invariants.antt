use Rattle.std.proofs.Common.{◌≡◌, [], replicate}
use Rattle.pc_graph.proofs.evaporation.empty_rows.Given as goal

abbrev pub invariant-loop-place : goal.invariant-loop-place
invariant-loop-place l = l.rows.items ≡ replicate l._place []
