use Rattle.std.proofs.Common.{take}
use Rattle.std.specs.Prelude.{ℕ, List, map}
use Rattle.pc_dfg.specs.declared.core_def.CoreDef.{CoreDef}
use Rattle.pc_adapt_groups.specs.Reaches.{Gives}
use Rattle.pc_adapt_groups.proofs.effects.of_named.Given as goal

abbrev pub invariant-loop-place : goal.invariant-loop-place
invariant-loop-place l = Gives l.reaches (map (λ (a : List ℕ × CoreDef). a.1) (take l.place l.args)) l.reach
