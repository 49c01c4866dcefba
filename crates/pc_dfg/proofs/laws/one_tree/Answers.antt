use Rattle.pc_dfg.proofs.NodeLemmas.{one_tree}
use Rattle.pc_dfg.proofs.laws.one_tree.Goals as goal

pub returns : goal.returns
returns c = one_tree
