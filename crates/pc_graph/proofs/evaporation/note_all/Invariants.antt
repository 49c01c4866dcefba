use Rattle.std.proofs.Common.{◌≡◌, length, map, take}
use Rattle.pc_graph.specs.Noting.{noted_all, number_in}
use Rattle.pc_graph.proofs.evaporation.note_all.Given as goal

abbrev pub invariant-loop-node : goal.invariant-loop-node
invariant-loop-node g l = record {
  size : length l.rows.items ≡ length l.fn.rows.items;
  so_far : l.rows.items ≡ noted_all l.from.0 l.fn.rows.items
      (map (number_in g.Node.EntityRef.number l.numbers) (take l.node-index l.nodes));
}
