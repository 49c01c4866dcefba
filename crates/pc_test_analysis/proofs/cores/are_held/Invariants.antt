use Rattle.std.specs.Prelude.{◌≡◌, ◌<◌, ℕ, Some, slice_get}
use Rattle.pc_dfg.specs.declared.core_def.CoreDef.{CoreDef}
use Rattle.pc_dfg.specs.Held.{IsHeld}
use Rattle.pc_test_analysis.proofs.cores.are_held.Given as goal

abbrev pub invariant-loop-place : goal.invariant-loop-place
invariant-loop-place l = (b : ℕ) (x : CoreDef) → b < l.place → slice_get l.defs b ≡ Some x → IsHeld l.graph x
