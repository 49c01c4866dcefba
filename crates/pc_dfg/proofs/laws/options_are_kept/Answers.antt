use Rattle.pc_dfg.proofs.KeptLemmas.{options_kept}
use Rattle.pc_dfg.proofs.laws.options_are_kept.Goals as goal

pub returns : goal.returns
returns c = λ x y o v grows m. options_kept x y grows m
