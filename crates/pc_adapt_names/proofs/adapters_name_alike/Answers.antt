use Rattle.pc_adapt_names.proofs.SameLemmas.{adapter_same}
use Rattle.pc_adapt_names.proofs.adapters_name_alike.Goals as goal

pub returns : goal.returns
returns c g a x v at means = adapter_same g a x v at means
