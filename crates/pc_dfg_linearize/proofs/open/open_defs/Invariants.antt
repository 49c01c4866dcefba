use Rattle.std.proofs.Common.{◌≡◌, ◌≤◌, ◌++◌, drop, length}
use Rattle.std.specs.List.{flat_map}
use Rattle.pc_dfg_linearize.specs.Parts.{in_def}
use Rattle.pc_dfg_linearize.specs.Stack.{opens}
use Rattle.pc_dfg_linearize.proofs.open.open_defs.Given as goal

abbrev pub invariant-loop-left : goal.invariant-loop-left
invariant-loop-left l = record {
  within : l.left ≤ length l.defs;
  so_far : l.tasks.items ≡ l.initial.tasks.items ++ opens (flat_map (in_def l.graph) (drop l.left l.defs));
}

abbrev pub decreases-loop-left : goal.decreases-loop-left
decreases-loop-left l = l.left
