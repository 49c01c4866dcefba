use Rattle.std.specs.Prelude.{◌≡◌, ◌<◌, ℕ, Some, slice_get}
use Rattle.pc_dfg.specs.declared.adapter.Adapter.{Adapter}
use Rattle.pc_test_adapt_graph.specs.Two.{IsTwo}
use Rattle.pc_test_adapt_graph.proofs.typed.are_of_two.Given as goal

abbrev pub invariant-loop-place : goal.invariant-loop-place
invariant-loop-place l =
    (b : ℕ) (x : Adapter) → b < l.place → slice_get l.graph.adapters b ≡ Some x → IsTwo x
