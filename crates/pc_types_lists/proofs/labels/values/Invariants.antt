use Rattle.std.proofs.Common.{◌≡◌, take}
use Rattle.pc_types_lists.specs.Labels.{values_of}
use Rattle.pc_types_lists.proofs.labels.values.Given as goal

abbrev pub invariant-loop-item : goal.invariant-loop-item
invariant-loop-item g l = l.values ≡ values_of (take l.item-index l.items)
