use Rattle.std.proofs.Common.{take}
use Rattle.pc_types_lists.specs.Table.{AreJoined, HasFacts}
use Rattle.pc_types_lists.proofs.table.FactTable.of_types.Given as goal

abbrev pub invariant-loop-ty : goal.invariant-loop-ty
invariant-loop-ty l = AreJoined (HasFacts l.self) (take l.ty-index l.types) l.all
