use Rattle.std.proofs.Common.{ℕ, List, take}
use Rattle.pc_types.specs.declared.types.InterfaceType.{InterfaceType}
use Rattle.pc_types_lists.specs.Table.{AreJoined, HasFacts}
use Rattle.pc_types_lists.proofs.table.FactTable.of_fields.Given as goal

abbrev pub invariant-loop-field : goal.invariant-loop-field
invariant-loop-field l =
    AreJoined (λ (f : List ℕ × InterfaceType). HasFacts l.self f.1) (take l.field-index l.fields) l.all
