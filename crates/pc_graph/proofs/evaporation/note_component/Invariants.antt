use Rattle.std.proofs.Common.{◌≡◌, length, take}
use Rattle.pc_graph.specs.Digraph.{Digraph}
use Rattle.pc_graph.specs.Noting.{noted_all, number_in, targets}
use Rattle.pc_graph.proofs.evaporation.note_component.Given as goal

abbrev pub invariant-loop-node : goal.invariant-loop-node
invariant-loop-node g l = record {
  size : length l.rows.items ≡ length l.fn.rows.items;
  so_far : (d : Digraph _) → g.G.Graph.Shows l.graph d
      → l.rows.items ≡ noted_all l.from.0 l.fn.rows.items
      (targets (number_in g.Node.EntityRef.number l.numbers) d (take l.node-index l.nodes));
}
