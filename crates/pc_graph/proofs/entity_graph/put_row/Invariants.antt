use Rattle.std.proofs.Common.{◌≡◌, ◌+◌, ◌-◌, length}
use Rattle.pc_entity.specs.SecondaryMap.{filled}
use Rattle.pc_graph.specs.Listed.{held}
use Rattle.pc_graph.proofs.entity_graph.put_row.Given as goal

abbrev pub invariant-fill : goal.invariant-fill
invariant-fill g l = filled (held l.rows.items) (l.key + 1) ≡ filled (held l.fn.rows.items) (l.key + 1)

abbrev pub decreases-fill : goal.decreases-fill
decreases-fill g l = l.key + 1 - length l.rows.items
