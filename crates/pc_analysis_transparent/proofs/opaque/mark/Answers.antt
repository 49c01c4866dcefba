use Rattle.std.proofs.Common.{ap, sym, ◌∙◌}
use Rattle.pc_analysis_transparent.specs.Opened.{when, with_all}
use Rattle.pc_analysis_transparent.proofs.SetLemmas.{with_nothing}
use Rattle.pc_analysis_transparent.proofs.opaque.mark.Goals as goal

pub returns-then-not-sees : goal.returns-then-not-sees
returns-then-not-sees c = with_nothing _ _ (ap (λ b. when b c.args.instance.0) c.if-not-sees.true)

pub returns : goal.returns
unfolding with_all
returns c =
    c.in_ok-insert.ensures.ok
    ∙ ap (λ b. with_all c.args.opaque.now (when b c.args.instance.0)) (sym c.if-not-sees.false)
