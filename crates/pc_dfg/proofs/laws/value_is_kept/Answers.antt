use Rattle.pc_dfg.proofs.KeptLemmas.{means_kept}
use Rattle.pc_dfg.proofs.laws.value_is_kept.Goals as goal

pub returns : goal.returns
returns c = λ x y d v grows m. means_kept x y grows m
