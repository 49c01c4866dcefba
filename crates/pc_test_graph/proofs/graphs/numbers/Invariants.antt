use Rattle.std.proofs.Common.{◌≡◌, ◌<◌, ℕ, Some, length, slice_get}
use Rattle.pc_numbers.specs.declared.module_entity.FuncIndex.{FuncIndex}
use Rattle.pc_test_graph.proofs.graphs.numbers.Given as goal

abbrev pub invariant-loop-number : goal.invariant-loop-number
invariant-loop-number l = record {
  so_long : length l.list.items ≡ l.number;
  in_place : (i : ℕ) (n : FuncIndex) → slice_get l.list.items i ≡ Some n → (n.0 ≡ i) × (i < l.number);
}
