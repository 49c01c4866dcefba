use Rattle.std.proofs.Common.{◌≡◌, map, take}
use Rattle.pc_analysis_contexts.specs.Keys.{def_key}
use Rattle.pc_analysis_contexts.proofs.made.def_keys.Given as goal

abbrev pub invariant-loop-def : goal.invariant-loop-def
invariant-loop-def l = l.keys ≡ map (def_key l.indexes l.known l.graph) (take l.def-index l.defs)
