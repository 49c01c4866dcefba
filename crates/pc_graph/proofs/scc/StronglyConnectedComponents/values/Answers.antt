use Rattle.std.specs.Map.Iter.{deref}
use Rattle.pc_graph.proofs.RunLemmas.{shown_in_order}
use Rattle.pc_graph.proofs.scc.StronglyConnectedComponents.values.Goals as goal

pub returns-clause-runs : goal.returns-clause-runs
returns-clause-runs g c = shown_in_order deref
