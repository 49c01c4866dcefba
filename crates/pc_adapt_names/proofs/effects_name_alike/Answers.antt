use Rattle.pc_adapt_names.proofs.SameLemmas.{effect_names}
use Rattle.pc_adapt_names.proofs.effects_name_alike.Goals as goal

pub returns : goal.returns
returns c g e v means = effect_names g means
