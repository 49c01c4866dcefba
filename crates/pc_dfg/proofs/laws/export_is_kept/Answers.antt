use Rattle.pc_dfg.proofs.NodeLemmas.{item_kept}
use Rattle.pc_dfg.proofs.laws.export_is_kept.Goals as goal

pub returns : goal.returns
returns c = λ x y converted n v grows m. item_kept x y grows converted m
