use Rattle.std.proofs.Common.{sym, ◌∙◌}
use Rattle.pc_analysis_transparent.proofs.ContextLemmas.{uses_one}
use Rattle.pc_analysis_transparent.proofs.context.of_def.Goals as goal

pub returns : goal.returns
returns c = c.is_context.ensures ∙ sym (uses_one c.args.def.now)
