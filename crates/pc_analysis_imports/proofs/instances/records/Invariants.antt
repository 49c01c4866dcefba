use Rattle.std.proofs.Common.{◌≡◌, take}
use Rattle.std.specs.Prelude.{map}
use Rattle.pc_info.specs.Modules.{module_view}
use Rattle.pc_analysis_imports.proofs.instances.records.Given as goal

abbrev pub invariant-loop-held : goal.invariant-loop-held
invariant-loop-held l = l.found.items ≡ map module_view (take l.held-index l.modules)
