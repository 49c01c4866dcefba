use Rattle.pc_analysis_transparent.proofs.ContextLemmas.{uses_both}
use Rattle.pc_analysis_transparent.proofs.context.of_options.Goals as goal

pub returns : goal.returns
returns c =
    uses_both _ _ _ _ (uses_both _ _ _ _ c.of_callback-callback.ensures c.of_post_return-post_return.ensures)
    c.of_model-model.ensures
