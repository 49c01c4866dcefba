use Rattle.pc_adapt_groups.proofs.GivesLemmas.{joined}
use Rattle.pc_adapt_groups.proofs.effects.of_side.Goals as goal

pub returns : goal.returns
returns c =
    joined c.args.reaches.now _ _ _ _ _
    (joined c.args.reaches.now _ _ _ _ _ c.of_maybe-callback.ensures c.of_maybe-post_return.ensures c.join.ensures)
    c.of_side_model-model.ensures c.join-2.ensures
