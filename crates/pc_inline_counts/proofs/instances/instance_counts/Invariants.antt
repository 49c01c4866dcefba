use Rattle.std.proofs.Common.{◌≡◌, [], take}
use Rattle.pc_inline_counts.specs.Counts.{counts_from, members_count}
use Rattle.pc_inline_counts.proofs.instances.instance_counts.Given as goal

abbrev pub invariant-loop-members : goal.invariant-loop-members
invariant-loop-members l =
    l.counts ≡ counts_from (members_count l.entries l.definitions) [] (take l.members-index l.lists)
