use Rattle.std.proofs.Common.{◌≡◌, ◌++◌, Bool, ◌≤◌, length, take, drop}
use Rattle.std.specs.List.{filter}
use Rattle.pc_graph.specs.Digraph.{AnswersBy}
use Rattle.pc_graph.proofs.filter_nodes.keep_tail.Given as goal

abbrev pub invariant-loop-place : goal.invariant-loop-place
invariant-loop-place g l = record {
  placed : l.kept ≤ l.place;
  same_length : length l.list.items ≡ length l.fn.list.items;
  so_far : (test : _ → Bool) → AnswersBy g.F.Fn l.predicate test
      → take l.kept l.list.items ++ filter test
      (drop l.place l.list.items) ≡ take l.fn.start l.fn.list.items ++ filter test
      (drop l.fn.start l.fn.list.items);
}
