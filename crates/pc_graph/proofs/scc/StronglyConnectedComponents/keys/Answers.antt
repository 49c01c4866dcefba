use Rattle.pc_graph.proofs.RunLemmas.{given_in_order}
use Rattle.pc_graph.proofs.scc.StronglyConnectedComponents.keys.Goals as goal

pub returns-clause-runs : goal.returns-clause-runs
returns-clause-runs g c = given_in_order
