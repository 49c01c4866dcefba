use Rattle.pc_dfg.proofs.UniqueLemmas.{options_unique}
use Rattle.pc_dfg.proofs.laws.one_value_of_options.Goals as goal

pub returns : goal.returns
returns c = λ x o v w a b. options_unique x a b
