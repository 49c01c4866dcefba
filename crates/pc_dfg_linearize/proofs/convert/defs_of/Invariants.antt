use Rattle.std.proofs.Common.{◌≡◌, map, take}
use Rattle.pc_dfg_linearize.specs.Converted.{def_in}
use Rattle.pc_dfg_linearize.proofs.convert.defs_of.Given as goal

abbrev pub invariant-loop-def : goal.invariant-loop-def
invariant-loop-def l = l.all ≡ map (def_in l.graph l.finish) (take l.def-index l.defs)
