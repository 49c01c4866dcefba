use Rattle.std.proofs.Common.{refl, ◌∙◌}
use Rattle.pc_serve.specs.declared.status.Status.TheVariants as status
use Rattle.pc_serve.proofs.AnswerLemmas.{made_says, refused_says}
use Rattle.pc_serve.proofs.EndLemmas.{said_ended, gave_where, gave_much}
use Rattle.pc_serve.proofs.ends.execute.Goals as goal

pub returns-in-Ok-Made : goal.returns-in-Ok-Made
returns-in-Ok-Made g c =
    said_ended _ _ _ _ _ _ _ _ _ _ _ _ _ _ _ _ _ g.met.C.Answers.completes status.Done _ _ c.as_slice.ensures.value (
      c.in-Ok.bytes.items,
      record { fits = c.in-Ok.ensures.fits; all = c.in-Ok.ensures.whole },
      made_says _ _ _ _ _ c.in-Ok-Made.ensures c.in-Ok-Made.field-0-is,
    )
    (gave_where _ _ _ c.read_all.ensures.too_long _ (λ e. absurd (cc (c.in-Ok.is, e))))
    c.read_all.ensures.never_falls c.say.ensures.said c.say.ensures.never_falls

pub returns-in-Ok-Refused : goal.returns-in-Ok-Refused
returns-in-Ok-Refused g c =
    said_ended _ _ _ _ _ _ _ _ _ _ _ _ _ _ _ _ _ g.met.C.Answers.completes status.Refused _ _
    c.as_slice-in-Ok-Refused.ensures.value (
      c.in-Ok.bytes.items,
      record { fits = c.in-Ok.ensures.fits; all = c.in-Ok.ensures.whole },
      refused_says _ _ _ _ _ c.in-Ok-Refused.ensures c.in-Ok-Refused.field-0-is,
    )
    (gave_where _ _ _ c.read_all.ensures.too_long _ (λ e. absurd (cc (c.in-Ok.is, e))))
    c.read_all.ensures.never_falls c.say-in-Ok-Refused.ensures.said c.say-in-Ok-Refused.ensures.never_falls

pub returns-in-Err-TooLong : goal.returns-in-Err-TooLong
returns-in-Err-TooLong g c =
    said_ended _ _ _ _ _ _ _ _ _ _ _ _ _ _ _ _ _ g.met.C.Answers.completes status.TooLong _ _ refl (
      gave_much _ _ _ c.read_all.ensures.too_long (cc (c.in-Err-TooLong.is, c.in-Err-TooLong.field-0-is)),
      c.as_bytes.ensures.value ∙ c.too_long_text.ensures,
    )
    (gave_where _ _ _ c.read_all.ensures.too_long _ (λ e. refl))
    c.read_all.ensures.never_falls c.say-in-Err-TooLong.ensures.said c.say-in-Err-TooLong.ensures.never_falls
