use Rattle.std.proofs.Common.{◌≡◌, fold, take}
use Rattle.pc_inline_counts.specs.Counts.{one_node, with_member}
use Rattle.pc_inline_counts.proofs.instances.members_count.Given as goal

abbrev pub invariant-loop-place : goal.invariant-loop-place
invariant-loop-place l =
    l.count ≡ fold (with_member l.entries l.definitions l.instances) one_node (take l.place l.members)
