use Rattle.std.proofs.Common.{ℕ, List, Option, take}
use Rattle.pc_types.specs.declared.types.InterfaceType.{InterfaceType}
use Rattle.pc_types_lists.specs.Table.{MayHaveFacts, AreJoined}
use Rattle.pc_types_lists.proofs.table.FactTable.of_cases.Given as goal

abbrev pub invariant-loop-case : goal.invariant-loop-case
invariant-loop-case l =
    AreJoined (λ (p : List ℕ × Option InterfaceType). MayHaveFacts l.self p.1) (take l.case-index l.cases) l.all
