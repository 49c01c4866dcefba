use Rattle.pc_dfg.specs.Names.{in_adapter}
use Rattle.pc_adapt_groups.proofs.GivesLemmas.{joined}
use Rattle.pc_adapt_groups.proofs.effects.of_adapter.Goals as goal

pub returns : goal.returns
unfolding in_adapter
returns c =
    joined c.args.reaches.now _ _ _ _ _ c.of_def-func.ensures
    (joined c.args.reaches.now _ _ _ _ _ c.of_side-lift.ensures c.of_side-lower.ensures c.join.ensures) c.join-2.ensures
