use Rattle.std.proofs.Common.{◌≡◌, ◌-◌, ◌≤◌, drop}
use Rattle.pc_weights.specs.Local.{prepared_sum}
use Rattle.pc_weights.proofs.scale.Scale.after_prepared.Given as goal

abbrev pub invariant-loop-item : goal.invariant-loop-item
invariant-loop-item l =
    (l.left - prepared_sum l.self.table.now l.self.modules.now (drop l.item-index l.items)
    ≡ l.room - prepared_sum l.self.table.now l.self.modules.now l.items)
    × (l.left ≤ 4294967295)
