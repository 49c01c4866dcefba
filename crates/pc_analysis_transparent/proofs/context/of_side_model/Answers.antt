use Rattle.std.proofs.Common.{ap, sym, ◌∙◌}
use Rattle.pc_dfg.specs.Names.{in_side_model}
use Rattle.pc_analysis_transparent.specs.Context.{uses_context}
use Rattle.pc_analysis_transparent.proofs.ContextLemmas.{side_uses}
use Rattle.pc_analysis_transparent.proofs.context.of_side_model.Goals as goal

pub returns-in-LinearMemory : goal.returns-in-LinearMemory
returns-in-LinearMemory c =
    c.of_maybe.ensures ∙ sym (side_uses _ _) ∙ ap (λ m. uses_context (in_side_model m)) (sym c.in-LinearMemory.is)
