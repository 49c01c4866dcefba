use Rattle.std.proofs.Common.{◌≤◌, length, take}
use Rattle.pc_graph.proofs.ListingLemmas.{Collected}
use Rattle.pc_graph.proofs.entity_graph.EntityGraph.new.Given as goal

abbrev pub invariant-loop-node : goal.invariant-loop-node
invariant-loop-node g l = record {
  callable : goal.F-IsAlwaysCallable g l.successors;
  small : length l.rows.items ≤ 4294967295;
  collected : Collected g.F.FnMut g.Node.EntityRef.number l.fn.successors
      (take l.node-index l.nodes) l.rows.items l.successors;
}
