use Rattle.std.proofs.Common.{refl, ◌∙◌, arith}
use Rattle.pc_serve.proofs.EndLemmas.{usage_ended, said_or_fault, gave_none}
use Rattle.pc_serve.proofs.ends.serve.Goals as goal

pub returns-in-None-clause-no_command : goal.returns-in-None-clause-no_command
returns-in-None-clause-no_command g c none = (refl, said_or_fault _ _ _ _ _ _ _ c.say.ensures.said)

pub returns-in-None-clause-ended : goal.returns-in-None-clause-ended
returns-in-None-clause-ended g c =
    usage_ended _ _ _ _ _ _ _ _ _ _ _ _ _ _ _ _ _ g.met.C.Answers.completes _ c.in-None.is
    (c.as_bytes.ensures.value ∙ c.usage_text.ensures) (gave_none _ _) (omega arith) c.say.ensures.said
    c.say.ensures.never_falls
