use Rattle.std.proofs.Common.{length}
use Rattle.pc_inline_imports.specs.Trims.{FoundMarked}
use Rattle.pc_inline_imports.proofs.trim.mark_found.Given as goal

-- the first are marked
abbrev pub invariant-loop-one : goal.invariant-loop-one
invariant-loop-one l = FoundMarked (length l.fn.marks.items) l.found l.one-index l.marks.items
