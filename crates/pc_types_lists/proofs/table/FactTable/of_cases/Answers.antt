use Rattle.std.proofs.Common.{ℕ, ◌+◌, List, Option, arith, sym, subst, take}
use Rattle.pc_types.specs.declared.types.InterfaceType.{InterfaceType}
use Rattle.pc_types_lists.specs.Table.{AreJoined, MayHaveFacts}
use Rattle.pc_types_lists.proofs.Joining.{joined_next}
use Rattle.pc_types_lists.proofs.table.FactTable.of_cases.Goals as goal

pub loop-case-preserved : goal.loop-case-preserved
loop-case-preserved c =
    let l = c.loop-case in
    let x = c.case-item in
    subst (λ a. AreJoined (λ (p : List ℕ × Option InterfaceType). MayHaveFacts c.args.self.now p.1)
    (take (l.case-index + 1) c.args.cases.now) a) (sym c.join-all.ensures)
    (joined_next (λ (p : List ℕ × Option InterfaceType). MayHaveFacts c.args.self.now p.1) c.args.cases.now l.case-index
    x.result l.all c.maybe_facts.result (omega arith) x.is l.invariant c.maybe_facts.ensures)
