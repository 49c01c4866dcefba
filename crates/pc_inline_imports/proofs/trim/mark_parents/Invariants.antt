use Rattle.std.proofs.Common.{◌≤◌, length}
use Rattle.pc_inline_imports.specs.Trims.{ParentsMarked}
use Rattle.pc_inline_imports.proofs.trim.mark_parents.Given as goal

-- those of the last places are marked
abbrev pub invariant-loop-left : goal.invariant-loop-left
invariant-loop-left l = record {
  within : l.left ≤ length l.places;
  marked : ParentsMarked l.places l.left l.fn.marks.items l.marks.items;
}

abbrev pub decreases-loop-left : goal.decreases-loop-left
decreases-loop-left l = l.left
