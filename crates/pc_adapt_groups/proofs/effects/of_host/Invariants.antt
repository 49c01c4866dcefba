use Rattle.std.proofs.Common.{take}
use Rattle.std.specs.Prelude.{map}
use Rattle.pc_dfg.specs.Effects.{Argument, host_arguments}
use Rattle.pc_adapt_groups.specs.Reaches.{Gives}
use Rattle.pc_adapt_groups.proofs.effects.of_host.Given as goal

abbrev pub invariant-loop-place : goal.invariant-loop-place
invariant-loop-place l =
    Gives l.reaches (map (λ (a : Argument). a.1.1) (host_arguments (take l.place l.args))) l.reach
