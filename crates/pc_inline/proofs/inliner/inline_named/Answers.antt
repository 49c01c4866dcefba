use Rattle.std.proofs.Common.{ap, length, subst, sym, ◌∙◌}
use Rattle.pc_local.specs.Sound.{AreSoundBodies, IsSoundBody}
use Rattle.pc_inline_names.specs.Named.{Named}
use Rattle.pc_inline.proofs.RunLemmas.{bodies_weigh, gains_nothing, root_weighs, run_counts, run_ends, run_gained}
use Rattle.pc_inline.proofs.RunLemmas.{run_gains, run_keeps, run_names, run_unfed, stands_among}
use Rattle.pc_inline.proofs.inliner.inline_named.Goals as goal

pub inline_root-inlined-requires-clause-fresh : goal.inline_root-inlined-requires-clause-fresh
inline_root-inlined-requires-clause-fresh c =
    c.new-state.ensures.fresh
    (ap (λ b. b.resources) (c.replace-builder.ensures.value ∙ c.forget_resources.ensures)) (c.in_ok-numbers.ensures _)

pub inline_root-inlined-requires-clause-stands : goal.inline_root-inlined-requires-clause-stands
inline_root-inlined-requires-clause-stands c =
    let s = c.requires.stands in
    (s.0, stands_among _ _ c.new-state.ensures.bodies c.args.program.now.root _ s.1)

pub inline_root-inlined-requires-clause-ready : goal.inline_root-inlined-requires-clause-ready
inline_root-inlined-requires-clause-ready c =
    record { leads = c.in_ok-leads.ensures }

pub inline_root-inlined-requires-clause-names : goal.inline_root-inlined-requires-clause-names
inline_root-inlined-requires-clause-names c =
    run_names _ _ _ (c.in_ok-modules.ensures ∙ c.as_slice.ensures) _ _ c.requires.named _ c.new-state.ensures.names _
    c.new-state.ensures.bodies _
    (c.new-state.ensures.fresh
    (ap (λ b. b.resources) (c.replace-builder.ensures.value ∙ c.forget_resources.ensures))
    (c.in_ok-numbers.ensures _)).path_names

pub inline_root-inlined-requires-clause-rooted : goal.inline_root-inlined-requires-clause-rooted
inline_root-inlined-requires-clause-rooted c = ap (λ (n : Named). n.root) c.new-state.ensures.names ∙ c.requires.rooted

pub inline_root-inlined-requires-clause-sound : goal.inline_root-inlined-requires-clause-sound
inline_root-inlined-requires-clause-sound c =
    subst (λ xs. IsSoundBody (length xs) c.args.program.now.root)
    (sym (c.in_ok-modules.ensures ∙ c.as_slice.ensures)) c.requires.root

pub inline_root-inlined-requires-clause-bodies : goal.inline_root-inlined-requires-clause-bodies
inline_root-inlined-requires-clause-bodies c =
    subst (λ xs. AreSoundBodies (length xs) c.new-state.result.bodies.now)
    (sym (c.in_ok-modules.ensures ∙ c.as_slice.ensures))
    (subst (AreSoundBodies (length c.args.program.now.modules)) (sym c.new-state.ensures.bodies) c.requires.components)

pub inline_root-inlined-requires-clause-root_weight : goal.inline_root-inlined-requires-clause-root_weight
inline_root-inlined-requires-clause-root_weight c =
    root_weighs _ _ _ (c.in_ok-modules.ensures ∙ c.as_slice.ensures) c.args.program.now.root _
    c.in_ok-weights.ensures.root

pub inline_root-inlined-requires-clause-weights : goal.inline_root-inlined-requires-clause-weights
inline_root-inlined-requires-clause-weights c =
    bodies_weigh _ _ _ (c.in_ok-modules.ensures ∙ c.as_slice.ensures) _ _ c.new-state.ensures.bodies _
    c.in_ok-weights.ensures.bodies

pub returns-clause-inlines : goal.returns-clause-inlines
returns-clause-inlines c body stands =
    run_ends _ _ _ _ _ (c.in_ok-modules.ensures ∙ c.as_slice.ensures) _ c.inline_root-inlined.new.state _
    (c.swap.ensures.x_after ∙ c.take_graph-graph.ensures.types) _ _ c.new-state.ensures.bodies body stands
    c.args.types.now _ c.new-state.result (c.replace-builder.ensures.value ∙ c.forget_resources.ensures)
    c.new-state.ensures.types c.types_are_distinct.ensures c.requires.held _ c.take_graph-graph.ensures.graph _
    c.inline_root-inlined.ensures.inlines _ c.and.ensures

pub returns-clause-few : goal.returns-clause-few
returns-clause-few c body stands =
    run_counts _ _ _ _ _ (c.in_ok-modules.ensures ∙ c.as_slice.ensures) _ c.inline_root-inlined.new.state _
    (c.swap.ensures.x_after ∙ c.take_graph-graph.ensures.types) _ _ c.new-state.ensures.bodies body stands
    c.args.types.now _ c.new-state.result (c.replace-builder.ensures.value ∙ c.forget_resources.ensures)
    c.new-state.ensures.types _ c.take_graph-graph.ensures.graph _ c.inline_root-inlined.ensures.inlines _
    c.and.ensures

pub returns-clause-keeps : goal.returns-clause-keeps
returns-clause-keeps c =
    run_keeps c.args.types.now _ _ c.new-state.result c.inline_root-inlined.new.state
    (c.replace-builder.ensures.value ∙ c.forget_resources.ensures) c.new-state.ensures.types
    c.inline_root-inlined.ensures.keeps (c.swap.ensures.x_after ∙ c.take_graph-graph.ensures.types)

pub returns-clause-tables : goal.returns-clause-tables
returns-clause-tables c =
    let s = c.requires.stands in
    run_gained _ _ _ _ _ (c.in_ok-modules.ensures ∙ c.as_slice.ensures) c.args.program.now.root
    c.inline_root-inlined.new.state _ (c.swap.ensures.x_after ∙ c.take_graph-graph.ensures.types) _ _
    c.new-state.ensures.bodies s.0 s.1 c.args.types.now _ c.new-state.result
    (c.replace-builder.ensures.value ∙ c.forget_resources.ensures) c.new-state.ensures.types _
    c.take_graph-graph.ensures.graph _ c.inline_root-inlined.ensures.inlines _ c.and.ensures

pub returns-clause-adds : goal.returns-clause-adds
returns-clause-adds c =
    let s = c.requires.stands in
    run_gains _ _ c.args.limit _ _ (c.in_ok-modules.ensures ∙ c.as_slice.ensures) c.args.program.now.root
    c.inline_root-inlined.new.state _ (c.swap.ensures.x_after ∙ c.take_graph-graph.ensures.types) _ _
    c.new-state.ensures.bodies s.0 s.1 c.args.types.now _ c.new-state.result
    (c.replace-builder.ensures.value ∙ c.forget_resources.ensures) c.new-state.ensures.types
    c.inline_root-inlined.ensures.few

pub returns-in_err-weights-clause-inlines : goal.returns-in_err-weights-clause-inlines
returns-in_err-weights-clause-inlines c body stands = run_unfed _ _ _ _ body _ _ c.from_residual.ensures.1

pub returns-in_err-weights-clause-adds : goal.returns-in_err-weights-clause-adds
returns-in_err-weights-clause-adds c = gains_nothing _ _ _

pub returns-in_err-modules-clause-inlines : goal.returns-in_err-modules-clause-inlines
returns-in_err-modules-clause-inlines c body stands = run_unfed _ _ _ _ body _ _ c.from_residual-in_err-modules.ensures.1

pub returns-in_err-modules-clause-adds : goal.returns-in_err-modules-clause-adds
returns-in_err-modules-clause-adds c = gains_nothing _ _ _

pub returns-in_err-leads-clause-inlines : goal.returns-in_err-leads-clause-inlines
returns-in_err-leads-clause-inlines c body stands = run_unfed _ _ _ _ body _ _ c.from_residual-in_err-leads.ensures.1

pub returns-in_err-leads-clause-adds : goal.returns-in_err-leads-clause-adds
returns-in_err-leads-clause-adds c = gains_nothing _ _ _

pub returns-in_err-numbers-clause-inlines : goal.returns-in_err-numbers-clause-inlines
returns-in_err-numbers-clause-inlines c body stands = run_unfed _ _ _ _ body _ _ c.from_residual-in_err-numbers.ensures.1

pub returns-in_err-numbers-clause-adds : goal.returns-in_err-numbers-clause-adds
returns-in_err-numbers-clause-adds c = gains_nothing _ _ _
