use Rattle.std.proofs.Common.{refl}
use Rattle.pc_dfg.proofs.SameLemmas.{defs_same, trampoline_signed}
use Rattle.pc_dfg.proofs.laws.one_trampoline.Goals as goal

pub returns : goal.returns
returns c = λ g u s t v interned told a b.
    let one = defs_same g u interned told (trampoline_signed u s) (trampoline_signed u t) refl a b in
    cc
