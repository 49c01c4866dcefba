use Rattle.std.proofs.Common.{arith}
use Rattle.pc_dfg.specs.Held.{IsHeld}
use Rattle.pc_dfg.specs.Names.{in_adapter}
use Rattle.pc_test_adapt_graph.proofs.HeldLemmas.{held_adapter}
use Rattle.pc_test_adapt_graph.proofs.sides.plain_one.Goals as goal

pub returns : goal.returns
unfolding in_adapter IsHeld
returns c g made begun = held_adapter g _ (omega (arith, begun)) begun (made, tt)
