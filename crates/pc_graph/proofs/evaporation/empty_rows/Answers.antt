use Rattle.std.proofs.Common.{◌++◌, ◌∷◌, [], ◌∙◌, ap, replicate}
use Rattle.pc_graph.proofs.EvaporationLemmas.{replicate_more}
use Rattle.pc_graph.proofs.evaporation.empty_rows.Goals as goal

pub loop-place-preserved : goal.loop-place-preserved
loop-place-preserved c = c.in_ok-push.ensures.items ∙ ap (λ rows. rows ++ c.new.result ∷ []) c.loop-place.invariant
    ∙ ap (λ row. replicate c.loop-place._place [] ++ row ∷ []) c.new.ensures ∙ replicate_more c.loop-place._place []
