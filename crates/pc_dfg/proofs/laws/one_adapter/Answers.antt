use Rattle.std.proofs.Common.{refl}
use Rattle.pc_dfg.proofs.SameLemmas.{defs_same, adapter_signed}
use Rattle.pc_dfg.proofs.laws.one_adapter.Goals as goal

pub returns : goal.returns
returns c = λ g u s t v interned told a b.
    let one = defs_same g u interned told (adapter_signed u s) (adapter_signed u t) refl a b in
    cc
