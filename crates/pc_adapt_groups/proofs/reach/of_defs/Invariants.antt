use Rattle.std.proofs.Common.{take}
use Rattle.pc_adapt_groups.specs.Reaches.{Gives}
use Rattle.pc_adapt_groups.proofs.reach.of_defs.Given as goal

abbrev pub invariant-loop-def : goal.invariant-loop-def
invariant-loop-def l = Gives l.reaches (take l.def-index l.defs) l.reach
