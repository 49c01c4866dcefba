use Rattle.pc_adapt_groups.proofs.GivesLemmas.{joined}
use Rattle.pc_adapt_groups.proofs.trampolines.of_entry.Goals as goal

pub returns : goal.returns
returns c =
    joined c.args.reaches.now _ _ _ _ _
    (joined c.args.reaches.now _ _ _ _ _ c.of_callback-callback.ensures c.of_post_return-post_return.ensures
    c.join.ensures) c.of_model-model.ensures c.join-2.ensures
