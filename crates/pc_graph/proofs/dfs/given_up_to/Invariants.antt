use Rattle.std.proofs.Common.{◌≤◌, length, drop}
use Rattle.std.specs.List.{All}
use Rattle.pc_graph.specs.Steps.{IsSkipped}
use Rattle.pc_graph.proofs.dfs.given_up_to.Given as goal

abbrev pub invariant-loop-left : goal.invariant-loop-left
invariant-loop-left g l = record {
  within : l.left ≤ length l.stack;
  skipped : All (IsSkipped (λ n answer. goal.S-post g l.seen n answer)) (drop l.left l.stack);
}

abbrev pub decreases-loop-left : goal.decreases-loop-left
decreases-loop-left g l = l.left
