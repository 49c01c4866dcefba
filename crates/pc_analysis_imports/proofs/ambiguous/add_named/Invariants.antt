use Rattle.std.proofs.Common.{◌≡◌, take}
use Rattle.std.specs.Prelude.{map}
use Rattle.pc_analysis_imports.specs.Followed.{source_of}
use Rattle.pc_analysis_imports.specs.Marked.{with_sources}
use Rattle.pc_analysis_imports.proofs.ambiguous.add_named.Given as goal

abbrev pub invariant-loop-place : goal.invariant-loop-place
invariant-loop-place l =
    l.ambiguous ≡ with_sources l.fn.ambiguous (map (λ d. source_of l.records l.instances d.1) (take l.place l.defs))
