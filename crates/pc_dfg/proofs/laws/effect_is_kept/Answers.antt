use Rattle.pc_dfg.proofs.TraceLemmas.{effect_kept}
use Rattle.pc_dfg.proofs.laws.effect_is_kept.Goals as goal

pub returns : goal.returns
returns c = λ x y e v grows m. effect_kept x y grows m
