use Rattle.std.proofs.Common.{◌≡◌, take}
use Rattle.std.specs.Prelude.{map}
use Rattle.pc_analysis_imports.specs.Followed.{source_of}
use Rattle.pc_analysis_imports.specs.Marked.{with_sources}
use Rattle.pc_analysis_imports.proofs.ambiguous.add_defs.Given as goal

abbrev pub invariant-loop-def : goal.invariant-loop-def
invariant-loop-def l =
    l.ambiguous ≡ with_sources l.fn.ambiguous (map (source_of l.records l.instances) (take l.def-index l.defs))
