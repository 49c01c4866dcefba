use Rattle.pc_graph.specs.Noting.{number_in}
use Rattle.pc_graph.proofs.EvaporationLemmas.{AreNumbersTo}
use Rattle.pc_graph.proofs.evaporation.numbers_of.Given as goal

abbrev pub invariant-loop-place : goal.invariant-loop-place
invariant-loop-place g l = AreNumbersTo (number_in g.Node.EntityRef.number l.numbers) l.components l.place
