use Rattle.std.proofs.Common.{◌≡◌, take}
use Rattle.std.specs.Prelude.{map}
use Rattle.pc_dfg.specs.Effects.{Argument, host_arguments}
use Rattle.pc_analysis_transparent.specs.Context.{uses_context}
use Rattle.pc_analysis_transparent.proofs.context.of_host.Given as goal

abbrev pub invariant-loop-place : goal.invariant-loop-place
invariant-loop-place l = l.uses ≡ uses_context (map (λ (a : Argument). a.1.1) (host_arguments (take l.place l.args)))
