use Rattle.std.proofs.Common.{◌≡◌, ◌+◌, ◌-◌, ◌≤◌, ◌++◌, map, vec_len, vec_capacity}
use Rattle.std.specs.List.{range_with_len}
use Rattle.pc_graph.proofs.entity_graph.EntityGraphGraph.nodes.Given as goal

abbrev pub invariant-loop-number : goal.invariant-loop-number
invariant-loop-number g l = record {
  room : vec_len l.into + (l.number-end - l.number) ≤ vec_capacity l.into;
  so_far : l.into.items ≡ l.fn.into.items ++ map g.Node.EntityRef.of_number (range_with_len 0 l.number);
}
