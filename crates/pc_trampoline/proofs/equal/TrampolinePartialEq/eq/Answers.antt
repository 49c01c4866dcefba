use Rattle.std.proofs.Common.{◌∙◌}
use Rattle.pc_trampoline.specs.Fields.{parts_eq}
use Rattle.pc_trampoline.proofs.equal.TrampolinePartialEq.eq.Goals as goal

pub returns : goal.returns
returns g c =
    c.eq.ensures
    ∙ (λ i. parts_eq g.L.PartialEq.eq g.O.PartialEq.eq g.M.PartialEq.eq g.T.PartialEq.eq g.C.PartialEq.eq
    g.P.PartialEq.eq (c.parts.ensures.parts i) (c.parts-2.ensures.parts i))
