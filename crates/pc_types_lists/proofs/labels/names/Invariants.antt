use Rattle.std.proofs.Common.{◌≡◌, take}
use Rattle.pc_entity.specs.Lists.{names_of}
use Rattle.pc_types_lists.proofs.labels.names.Given as goal

abbrev pub invariant-loop-item : goal.invariant-loop-item
invariant-loop-item g l = l.names ≡ names_of (take l.item-index l.items)
