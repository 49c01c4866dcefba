use Rattle.pc_dfg.proofs.EmptyLemmas.{empty_ordered}
use Rattle.pc_dfg.proofs.laws.empty_is_ordered.Goals as goal

pub returns : goal.returns
returns c = empty_ordered
