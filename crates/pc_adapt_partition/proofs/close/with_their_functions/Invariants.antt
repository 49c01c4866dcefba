use Rattle.std.specs.Prelude.{◌≡◌, take}
use Rattle.pc_adapt_partition.specs.Parts.{with_functions}
use Rattle.pc_adapt_partition.proofs.close.with_their_functions.Given as goal

abbrev pub invariant-loop-place : goal.invariant-loop-place
invariant-loop-place l = l.numbered ≡ with_functions l.function (take l.place l.fn.records)
