use Rattle.std.proofs.Common.{◌||◌, ap, ◌∙◌}
use Rattle.pc_analysis_transparent.specs.Opened.{by_adapter, when, with_all}
use Rattle.pc_analysis_transparent.proofs.ContextLemmas.{uses_both}
use Rattle.pc_analysis_transparent.proofs.SetLemmas.{with_next}
use Rattle.pc_analysis_transparent.proofs.opaque.mark_adapter.Goals as goal

pub returns : goal.returns
unfolding by_adapter
returns c =
    let x = c.args.adapter.now in
    let before = c.args.opaque.now in
    let between = c.mark.new.opaque in
    with_next before between c.mark-2.new.opaque _ _
    (c.in_ok-mark.ensures
    ∙ ap (λ b. with_all before (when b x.lower_options.instance.0))
    (λ i. c.is_async-calls_async.ensures i || c.of_side-lower_option.ensures i))
    (c.in_ok-mark-2.ensures
    ∙ ap (λ b. with_all between (when b x.lift_options.instance.0))
    (uses_both _ _ _ _ c.of_def-callee.ensures c.of_side-lift_option.ensures))
