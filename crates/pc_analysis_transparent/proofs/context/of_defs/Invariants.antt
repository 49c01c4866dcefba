use Rattle.std.proofs.Common.{◌≡◌, take}
use Rattle.pc_analysis_transparent.specs.Context.{uses_context}
use Rattle.pc_analysis_transparent.proofs.context.of_defs.Given as goal

abbrev pub invariant-loop-def : goal.invariant-loop-def
invariant-loop-def l = l.uses ≡ uses_context (take l.def-index l.defs)
