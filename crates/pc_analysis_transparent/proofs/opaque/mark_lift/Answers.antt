use Rattle.std.proofs.Common.{ap, sym, ◌∙◌, ◌∷◌}
use Rattle.pc_dfg.specs.declared.options.CanonicalOptions.{CanonicalOptions}
use Rattle.pc_dfg.specs.Names.{each_of, in_entry}
use Rattle.pc_dfg.specs.Numbers.{options_entry}
use Rattle.pc_analysis_transparent.specs.Context.{uses_context}
use Rattle.pc_analysis_transparent.specs.Opened.{when, with_all}
use Rattle.pc_analysis_transparent.proofs.ContextLemmas.{uses_both}
use Rattle.pc_analysis_transparent.proofs.SetLemmas.{with_nothing}
use Rattle.pc_analysis_transparent.proofs.opaque.mark_lift.Goals as goal

pub returns-in-None : goal.returns-in-None
returns-in-None c =
    let g = c.args.graph.now in
    let f = c.args.func.now in
    with_nothing _ _
    (ap (each_of (λ (o : CanonicalOptions). when (uses_context (f ∷ in_entry g (options_entry o))) o.instance.0))
    (sym c.in-None.ensures))

pub returns-in_ok-mark-in-Some : goal.returns-in_ok-mark-in-Some
returns-in_ok-mark-in-Some c =
    let g = c.args.graph.now in
    let f = c.args.func.now in
    c.in_ok-mark-in-Some.ensures
    ∙ ap (with_all c.args.opaque.now) (ap (λ b. when b c.in-Some.entry.now.instance.0)
    (uses_both _ _ _ _ c.of_def-callee.ensures c.of_options-option.ensures)
    ∙ ap (each_of (λ (o : CanonicalOptions). when (uses_context (f ∷ in_entry g (options_entry o))) o.instance.0))
    c.in-Some.ensures)
