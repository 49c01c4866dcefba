use Rattle.std.proofs.Common.{◌≡◌, drop}
use Rattle.pc_parsed.specs.ItemFaults.{first_item}
use Rattle.pc_parsed.proofs.checks.first_item.Given as goal

abbrev pub invariant-loop-n : goal.invariant-loop-n
invariant-loop-n g l =
    first_item (g.T.Checked.fault l.open_count) l.n (drop l.n l.items)
    ≡ first_item (g.T.Checked.fault l.open_count) 0 l.items
