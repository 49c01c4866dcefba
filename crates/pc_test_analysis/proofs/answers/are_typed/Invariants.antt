use Rattle.std.specs.Prelude.{◌≡◌, ◌<◌, ℕ, Some, slice_get}
use Rattle.pc_dfg.specs.declared.adapter.Adapter.{Adapter}
use Rattle.pc_analysis_transparent.specs.Opaque.{HoldsTypes}
use Rattle.pc_test_analysis.proofs.answers.are_typed.Given as goal

abbrev pub invariant-loop-place : goal.invariant-loop-place
invariant-loop-place l =
    (b : ℕ) (x : Adapter) → b < l.place → slice_get l.graph.adapters b ≡ Some x → HoldsTypes l.types x
