use Rattle.std.proofs.Common.{◌+◌}
use Rattle.pc_local.specs.Captured.{Captures}
use Rattle.pc_local.proofs.captured.capture.Given as goal

abbrev pub invariant-loop-left : goal.invariant-loop-left
invariant-loop-left l = Captures l.fn.stack.items (l.base + l.left) l.left l.index l.stack.items l.variable
