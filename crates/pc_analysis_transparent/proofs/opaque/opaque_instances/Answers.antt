use Rattle.std.proofs.Common.{ap, ◌∙◌}
use Rattle.std.specs.List.{flat_map}
use Rattle.std.specs.FinSet as set
use Rattle.pc_analysis_transparent.specs.Opened.{by_trampoline, opened, with_all}
use Rattle.pc_analysis_transparent.proofs.SetLemmas.{with_next}
use Rattle.pc_analysis_transparent.proofs.opaque.opaque_instances.Goals as goal

pub returns : goal.returns
unfolding opened
returns c =
    let g = c.args.graph.now in
    with_next set.empty c.mark_effects.new.opaque _ _ _
    (with_next set.empty c.mark_adapters.new.opaque _ _ _
    (with_next set.empty c.mark_trampolines.new.opaque _ _ _
    (c.in_ok-mark_trampolines.ensures
    ∙ ap (λ s. with_all s (flat_map (by_trampoline g) g.trampolines)) c.new-opaque.ensures)
    c.in_ok-mark_adapters.ensures) c.in_ok-mark_effects.ensures) c.in_ok-mark_exports.ensures
