use Rattle.std.proofs.Common.{◌≡◌, [], take}
use Rattle.pc_analysis_imports.specs.Followed.{instances_after}
use Rattle.pc_analysis_imports.proofs.instances.instances.Given as goal

abbrev pub invariant-loop-step : goal.invariant-loop-step
invariant-loop-step l = l.made ≡ instances_after l.records [] (take l.step-index l.steps)
