use Rattle.pc_analysis_transparent.proofs.ContextLemmas.{uses_both}
use Rattle.pc_analysis_transparent.proofs.context.of_side.Goals as goal

pub returns : goal.returns
returns c =
    uses_both _ _ _ _ (uses_both _ _ _ _ c.of_maybe-callback.ensures c.of_maybe-post_return.ensures)
    c.of_side_model-model.ensures
