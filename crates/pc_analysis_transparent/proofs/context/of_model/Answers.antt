use Rattle.std.proofs.Common.{ap, sym, ◌∙◌}
use Rattle.pc_dfg.specs.Names.{in_model}
use Rattle.pc_dfg.specs.Numbers.{model_entry}
use Rattle.pc_analysis_transparent.specs.Context.{uses_context}
use Rattle.pc_analysis_transparent.proofs.ContextLemmas.{model_uses}
use Rattle.pc_analysis_transparent.proofs.context.of_model.Goals as goal

pub returns-in-LinearMemory : goal.returns-in-LinearMemory
returns-in-LinearMemory c =
    c.of_realloc.ensures ∙ sym (model_uses c.args.graph.now _ _)
    ∙ ap (λ m. uses_context (in_model c.args.graph.now (model_entry m))) (sym c.in-LinearMemory.is)
