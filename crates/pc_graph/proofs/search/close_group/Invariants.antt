use Rattle.std.proofs.Common.{◌≡◌, ◌⊎◌, ◌≤◌, ◌++◌, length, drop, reverse}
use Rattle.std.specs.List.{Contains}
use Rattle.pc_entity.specs.SecondaryMap.{value_at}
use Rattle.pc_graph.specs.declared.search.Noted.TheVariants.{Closed}
use Rattle.pc_graph.proofs.search.close_group.Given as goal

abbrev pub invariant-loop-left : goal.invariant-loop-left
invariant-loop-left g l = record {
  within : l.left ≤ length l.stack.items;
  whole : (l.head ≤ l.left) ⊎ (l.left ≡ length l.stack.items);
  moved : l.nodes.items ≡ l.fn.nodes.items ++ reverse (drop l.left l.stack.items);
  closed : (n : _) → Contains (reverse (drop l.left l.stack.items)) n
      → value_at l.noted (g.Node.EntityRef.number n) ≡ Closed;
  others : (n : _) → ¬ (Contains (reverse (drop l.left l.stack.items)) n)
      → value_at l.noted (g.Node.EntityRef.number n) ≡ value_at l.fn.noted (g.Node.EntityRef.number n);
}

abbrev pub decreases-loop-left : goal.decreases-loop-left
decreases-loop-left g l = l.left
