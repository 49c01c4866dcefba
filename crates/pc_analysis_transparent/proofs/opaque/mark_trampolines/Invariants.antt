use Rattle.std.proofs.Common.{◌≡◌, take}
use Rattle.std.specs.List.{flat_map}
use Rattle.pc_analysis_transparent.specs.Opened.{by_trampoline, with_all}
use Rattle.pc_analysis_transparent.proofs.opaque.mark_trampolines.Given as goal

abbrev pub invariant-loop-signed : goal.invariant-loop-signed
invariant-loop-signed l =
    l.opaque ≡ with_all l.fn.opaque (flat_map (by_trampoline l.graph) (take l.signed-index l.graph.trampolines))
