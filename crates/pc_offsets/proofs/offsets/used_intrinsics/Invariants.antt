use Rattle.std.proofs.Common.{◌≡◌, drop}
use Rattle.pc_offsets.specs.Context.{used_end}
use Rattle.pc_offsets.proofs.UsedLemmas.{joined}
use Rattle.pc_offsets.proofs.offsets.used_intrinsics.Given as goal

abbrev pub invariant-loop-n : goal.invariant-loop-n
invariant-loop-n l = used_end l.signatures ≡ joined l.end l.n (used_end (drop l.n l.signatures))
