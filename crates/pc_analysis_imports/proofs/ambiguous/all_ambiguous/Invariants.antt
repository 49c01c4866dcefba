use Rattle.std.proofs.Common.{◌≡◌, length, take}
use Rattle.pc_analysis_imports.specs.Marked.{none_marked, shown_in_all, with_sources}
use Rattle.pc_analysis_imports.proofs.ambiguous.all_ambiguous.Given as goal

abbrev pub invariant-loop-step : goal.invariant-loop-step
invariant-loop-step l =
    l.found
    ≡ with_sources (none_marked (length l.records))
    (shown_in_all l.records l.instances l.ways (take l.step-index l.steps))
