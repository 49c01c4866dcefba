use Rattle.std.proofs.Common.{ℕ, ◌+◌, List, arith, sym, subst, take}
use Rattle.pc_types.specs.declared.types.InterfaceType.{InterfaceType}
use Rattle.pc_types_lists.specs.Table.{AreJoined, HasFacts}
use Rattle.pc_types_lists.proofs.Joining.{joined_next}
use Rattle.pc_types_lists.proofs.table.FactTable.of_fields.Goals as goal

pub loop-field-preserved : goal.loop-field-preserved
loop-field-preserved c =
    let l = c.loop-field in
    let x = c.field-item in
    subst (λ a. AreJoined (λ (f : List ℕ × InterfaceType). HasFacts c.args.self.now f.1)
    (take (l.field-index + 1) c.args.fields.now) a) (sym c.join-all.ensures)
    (joined_next (λ (f : List ℕ × InterfaceType). HasFacts c.args.self.now f.1) c.args.fields.now l.field-index x.result
    l.all c.facts.result (omega arith) x.is l.invariant c.facts.ensures)
