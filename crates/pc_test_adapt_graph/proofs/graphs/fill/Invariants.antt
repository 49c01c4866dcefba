use Rattle.pc_dfg.specs.Ordered.{IsOrdered}
use Rattle.pc_test_adapt_graph.proofs.graphs.fill.Given as goal

abbrev pub invariant-loop-n : goal.invariant-loop-n
invariant-loop-n l = IsOrdered l.graph
