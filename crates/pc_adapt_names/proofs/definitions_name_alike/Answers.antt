use Rattle.pc_adapt_names.proofs.SameLemmas.{value_names}
use Rattle.pc_adapt_names.proofs.definitions_name_alike.Goals as goal

pub returns : goal.returns
returns c g d v means = value_names g means
