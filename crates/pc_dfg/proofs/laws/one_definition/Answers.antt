use Rattle.std.proofs.Common.{refl}
use Rattle.pc_dfg.proofs.SameLemmas.{defs_same}
use Rattle.pc_dfg.proofs.laws.one_definition.Goals as goal

pub returns : goal.returns
returns c = λ g u d e v interned told sd se a b. defs_same g u interned told sd se refl a b
