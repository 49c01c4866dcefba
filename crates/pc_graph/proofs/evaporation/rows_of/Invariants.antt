use Rattle.std.proofs.Common.{length}
use Rattle.pc_graph.specs.Noting.{number_in}
use Rattle.pc_graph.specs.Classes.{flat}
use Rattle.pc_graph.specs.Digraph.{Digraph}
use Rattle.pc_graph.specs.Evaporation.{IsClosed}
use Rattle.pc_graph.proofs.EvaporationLemmas.{Done}
use Rattle.pc_graph.proofs.NotedLemmas.{Notes}
use Rattle.pc_graph.proofs.evaporation.rows_of.Given as goal

abbrev pub invariant-loop-place : goal.invariant-loop-place
invariant-loop-place g l = (d : Digraph _) → g.G.Graph.Shows l.graph d → IsClosed d (flat l.components)
    → Notes (length l.components)
    (Done (number_in g.Node.EntityRef.number l.numbers) d l.components l.place) l.rows.items
