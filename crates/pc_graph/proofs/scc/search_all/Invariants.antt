use Rattle.std.proofs.Common.{◌+◌, ◌-◌, ◌*◌, ◌^◌, length}
use Rattle.pc_graph.specs.Digraph.{Digraph}
use Rattle.pc_graph.proofs.SearchLemmas.{Going}
use Rattle.pc_graph.proofs.scc.search_all.Given as goal

abbrev pub invariant-events : goal.invariant-events
invariant-events g l = (d : Digraph _) → g.G.Graph.Shows l.graph d → Going g.Node.EntityRef.number d l.dfs l.search

abbrev pub decreases-events : goal.decreases-events
decreases-events g l = (2 ^ 64 - (length l.search.stack + length l.search.nodes)) * 2 ^ 63 + length l.dfs
