use Rattle.std.proofs.Common.{◌≡◌, ◌+◌, ◌-◌, ◌≤◌, ◌++◌, length, take, reverse, vec_len, vec_capacity}
use Rattle.pc_graph.specs.Steps.{visits_of}
use Rattle.pc_graph.proofs.dfs.Dfs.add_roots.Given as goal

abbrev pub invariant-loop-root : goal.invariant-loop-root
invariant-loop-root g l = record {
  room : vec_len l.self-inside.stack + (length l.roots - l.root-index) ≤ vec_capacity l.self-inside.stack;
  added : reverse l.self-inside.stack.items ≡ visits_of (take l.root-index l.roots) ++ l.fn.self;
}
