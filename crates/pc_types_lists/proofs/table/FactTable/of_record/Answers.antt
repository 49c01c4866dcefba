use Rattle.std.proofs.Common.{ℕ, List, subst}
use Rattle.pc_types.specs.declared.types.InterfaceType.{InterfaceType}
use Rattle.pc_types_lists.specs.Table.{AreJoined, HasFacts}
use Rattle.pc_types_lists.proofs.table.FactTable.of_record.Goals as goal

pub returns : goal.returns
returns c =
    subst (λ l. AreJoined (λ (f : List ℕ × InterfaceType). HasFacts c.args.self.now f.1) l c.of_fields.result)
    c.as_slice.ensures c.of_fields.ensures
