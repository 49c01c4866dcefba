use Rattle.std.proofs.Common.{◌≡◌, take}
use Rattle.std.specs.List.{flat_map}
use Rattle.pc_analysis_transparent.specs.Opened.{by_effect, with_all}
use Rattle.pc_analysis_transparent.proofs.opaque.mark_effects.Given as goal

abbrev pub invariant-loop-effect : goal.invariant-loop-effect
invariant-loop-effect l =
    l.opaque ≡ with_all l.fn.opaque (flat_map (by_effect l.graph) (take l.effect-index l.graph.side_effects))
