use Rattle.std.proofs.Common.{arith, get_or, ◌+◌, sym, subst, take}
use Rattle.std.proofs.lemmas.List.{get_or_default}
use Rattle.pc_types.specs.declared.types.InterfaceType.TheVariants.{Bool}
use Rattle.pc_types_lists.specs.Table.{AreJoined, HasFacts}
use Rattle.pc_types_lists.proofs.Joining.{joined_next}
use Rattle.pc_types_lists.proofs.table.FactTable.of_types.Goals as goal

pub loop-ty-preserved : goal.loop-ty-preserved
loop-ty-preserved c =
    let l = c.loop-ty in
    let ws = c.args.types.now in
    let w = get_or ws l.ty-index Bool in
    subst (λ a. AreJoined (HasFacts c.args.self.now) (take (l.ty-index + 1) ws) a) (sym c.join-all.ensures)
    (joined_next (HasFacts c.args.self.now) ws l.ty-index w l.all c.facts.result (omega arith)
    (get_or_default ws l.ty-index Bool w c.loop-ty-test.true) l.invariant c.facts.ensures)
