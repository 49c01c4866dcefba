use Rattle.std.proofs.Common.{◌≡◌, [], take}
use Rattle.pc_inline_counts.specs.Counts.{counts_from, entry_count}
use Rattle.pc_inline_counts.proofs.entries.entry_counts.Given as goal

abbrev pub invariant-loop-entry : goal.invariant-loop-entry
invariant-loop-entry l = l.counts ≡ counts_from entry_count [] (take l.entry-index l.types)
