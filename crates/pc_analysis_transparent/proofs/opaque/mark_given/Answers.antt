use Rattle.std.proofs.Common.{ap, ◌∙◌}
use Rattle.pc_analysis_transparent.specs.Opened.{when, with_all}
use Rattle.pc_analysis_transparent.proofs.opaque.mark_given.Goals as goal

pub returns : goal.returns
returns c =
    c.in_ok-mark.ensures ∙ ap (λ b. with_all c.args.opaque.now (when b c.args.owner.0)) c.of_instance-uses.ensures
