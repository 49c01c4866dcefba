use Rattle.std.proofs.Common.{◌≡◌, take}
use Rattle.pc_analysis_imports.specs.Marked.{host_sources, with_sources}
use Rattle.pc_analysis_imports.proofs.ambiguous.add_host.Given as goal

abbrev pub invariant-loop-place : goal.invariant-loop-place
invariant-loop-place l =
    l.ambiguous ≡ with_sources l.fn.ambiguous (host_sources l.records l.instances (take l.place l.args))
