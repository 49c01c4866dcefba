use Rattle.pc_dfg.proofs.UniqueLemmas.{means_unique}
use Rattle.pc_dfg.proofs.laws.one_value.Goals as goal

pub returns : goal.returns
returns c = λ x d v w a b. means_unique x a b
