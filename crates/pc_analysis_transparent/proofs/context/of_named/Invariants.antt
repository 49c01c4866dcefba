use Rattle.std.proofs.Common.{◌≡◌, take}
use Rattle.std.specs.Prelude.{ℕ, List, map}
use Rattle.pc_dfg.specs.declared.core_def.CoreDef.{CoreDef}
use Rattle.pc_analysis_transparent.specs.Context.{uses_context}
use Rattle.pc_analysis_transparent.proofs.context.of_named.Given as goal

abbrev pub invariant-loop-place : goal.invariant-loop-place
invariant-loop-place l = l.uses ≡ uses_context (map (λ (a : List ℕ × CoreDef). a.1) (take l.place l.args))
