use Rattle.std.proofs.Common.{◌≡◌, take}
use Rattle.std.specs.List.{Contains}
use Rattle.pc_entity.specs.SecondaryMap.{value_at}
use Rattle.pc_graph.proofs.evaporation.put_number.Given as goal

abbrev pub invariant-loop-node : goal.invariant-loop-node
invariant-loop-node g l = record {
  put : (n : _) → Contains (take l.node-index l.nodes) n → value_at l.numbers (g.Node.EntityRef.number n) ≡ l.number;
  others : (n : _) → ¬ (Contains (take l.node-index l.nodes) n)
      → value_at l.numbers (g.Node.EntityRef.number n) ≡ value_at l.fn.numbers (g.Node.EntityRef.number n);
}
