use Rattle.std.proofs.Common.{refl}
use Rattle.pc_dfg.proofs.SameLemmas.{options_same}
use Rattle.pc_dfg.proofs.laws.one_number_of_options.Goals as goal

pub returns : goal.returns
returns c = λ g u m n v interned told a b. options_same g u interned told refl a b
