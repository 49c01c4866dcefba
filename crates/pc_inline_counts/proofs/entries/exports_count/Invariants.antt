use Rattle.std.proofs.Common.{◌≡◌, fold, take}
use Rattle.pc_inline_counts.specs.Counts.{one_node, with_export}
use Rattle.pc_inline_counts.proofs.entries.exports_count.Given as goal

abbrev pub invariant-loop-export : goal.invariant-loop-export
invariant-loop-export l = l.count ≡ fold (with_export l.earlier) one_node (take l.export-index l.exports)
