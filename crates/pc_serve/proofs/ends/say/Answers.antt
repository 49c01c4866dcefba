use Rattle.std.proofs.Common.{inl, inr, refl}
use Rattle.pc_serve.specs.Said.{Said}
use Rattle.pc_serve.proofs.ends.say.Goals as goal

pub returns-in-Ok-clause-said : goal.returns-in-Ok-clause-said
unfolding Said
returns-in-Ok-clause-said g c = inl (refl, c.in-Ok.ensures.ok)

pub returns-in-Err-clause-said : goal.returns-in-Err-clause-said
unfolding Said
returns-in-Err-clause-said g c = inr (
  refl,
  c.in-Err.ensures.cause,
  record {
    text = c.args.text.now;
    due = refl;
    n = c.in-Err.ensures.err.0;
    within = c.in-Err.ensures.err.1;
    wrote = c.in-Err.ensures.err.2;
  },
)
