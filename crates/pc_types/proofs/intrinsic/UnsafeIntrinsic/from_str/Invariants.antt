use Rattle.std.proofs.Common.{◌≢◌, ◌<◌, ℕ, Some, slice_get}
use Rattle.pc_types.specs.Intrinsic.{intrinsic_names}
use Rattle.pc_types.proofs.intrinsic.UnsafeIntrinsic.from_str.Given as goal

abbrev pub invariant-loop-place : goal.invariant-loop-place
invariant-loop-place l = (k : ℕ) → k < l.place → slice_get intrinsic_names k ≢ Some l.s
