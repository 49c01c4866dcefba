use Rattle.std.proofs.Common.{◌≡◌, take}
use Rattle.std.specs.Prelude.{map}
use Rattle.pc_analysis_imports.specs.Followed.{source_of}
use Rattle.pc_analysis_imports.proofs.source.of_defs.Given as goal

abbrev pub invariant-loop-def : goal.invariant-loop-def
invariant-loop-def l = l.found ≡ map (source_of l.records l.instances) (take l.def-index l.defs)
