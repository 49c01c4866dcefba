use Rattle.pc_same_values.proofs.MadeLemmas.{made_told}
use Rattle.pc_same_values.proofs.adapters_are_told.Goals as goal

pub returns : goal.returns
returns c = made_told
