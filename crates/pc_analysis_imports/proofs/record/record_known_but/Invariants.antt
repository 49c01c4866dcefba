use Rattle.std.proofs.Common.{length}
use Rattle.pc_entity.specs.Lists.{Kept}
use Rattle.pc_analysis_imports.specs.Imports.{with_known_but}
use Rattle.pc_analysis_imports.proofs.WrittenLemmas.{IsWritten}
use Rattle.pc_analysis_imports.proofs.record.record_known_but.Given as goal

abbrev pub invariant-loop-of_module : goal.invariant-loop-of_module
invariant-loop-of_module l =
    Kept l.left.items l.fn.hidden.items
    × IsWritten with_known_but l.fn.modules.items l.fn.hidden.items (length l.left.items) l.modules.items

abbrev pub decreases-loop-of_module : goal.decreases-loop-of_module
decreases-loop-of_module l = length l.left.items
