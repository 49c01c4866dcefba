use Rattle.pc_graph.specs.Numbered.{deref_numbered}
use Rattle.pc_graph.proofs.RunLemmas.{shown_in_order}
use Rattle.pc_graph.proofs.scc.StronglyConnectedComponents.iter.Goals as goal

pub returns-clause-runs : goal.returns-clause-runs
returns-clause-runs g c = shown_in_order deref_numbered
