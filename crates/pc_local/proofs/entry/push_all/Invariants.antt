use Rattle.std.proofs.Common.{◌≡◌, ◌++◌, drop}
use Rattle.std.specs.List.{filter_map}
use Rattle.pc_local.proofs.entry.push_all.Given as goal

abbrev pub invariant-loop-entry : goal.invariant-loop-entry
invariant-loop-entry g l =
    l.out ++ filter_map g.T.Entry.item (drop l.entry-index l.entries) ≡ l.fn.out ++ filter_map g.T.Entry.item l.entries
