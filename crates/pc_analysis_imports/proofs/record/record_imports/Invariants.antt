use Rattle.std.proofs.Common.{length}
use Rattle.pc_entity.specs.Lists.{Kept}
use Rattle.pc_analysis_imports.specs.Imports.{with_imports}
use Rattle.pc_analysis_imports.proofs.WrittenLemmas.{IsWritten}
use Rattle.pc_analysis_imports.proofs.record.record_imports.Given as goal

abbrev pub invariant-loop-found : goal.invariant-loop-found
invariant-loop-found l =
    Kept l.left.items l.fn.imports.items
    × IsWritten with_imports l.fn.modules.items l.fn.imports.items (length l.left.items) l.modules.items

abbrev pub decreases-loop-found : goal.decreases-loop-found
decreases-loop-found l = length l.left.items
