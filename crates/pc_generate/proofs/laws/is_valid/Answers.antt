use Rattle.pc_generate.proofs.ChainLemmas.{valid}
use Rattle.pc_generate.proofs.laws.is_valid.Goals as goal

pub returns : goal.returns
returns c = valid
