use Rattle.std.proofs.Common.{ℕ, List, Option, subst}
use Rattle.pc_types.specs.declared.types.InterfaceType.{InterfaceType}
use Rattle.pc_types_lists.specs.Table.{AreJoined, MayHaveFacts}
use Rattle.pc_types_lists.proofs.table.FactTable.of_variant.Goals as goal

pub returns : goal.returns
returns c =
    subst (λ l. AreJoined (λ (p : List ℕ × Option InterfaceType). MayHaveFacts c.args.self.now p.1) l c.of_cases.result)
    c.as_slice.ensures c.of_cases.ensures
