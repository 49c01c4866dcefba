use Rattle.std.proofs.Common.{refl}
use Rattle.std.proofs.lemmas.Option.{same_Some}
use Rattle.pc_dfg.proofs.SameLemmas.{slots_same}
use Rattle.pc_dfg.proofs.laws.one_slot.Goals as goal

pub returns : goal.returns
returns c = λ g u k m n v interned told a b. same_Some m n (slots_same g u interned told refl refl a b)
