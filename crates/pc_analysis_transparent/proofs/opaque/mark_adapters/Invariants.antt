use Rattle.std.proofs.Common.{◌≡◌, take}
use Rattle.std.specs.List.{flat_map}
use Rattle.pc_analysis_transparent.specs.Opened.{by_adapter, with_all}
use Rattle.pc_analysis_transparent.proofs.opaque.mark_adapters.Given as goal

abbrev pub invariant-loop-adapter : goal.invariant-loop-adapter
invariant-loop-adapter l =
    l.opaque ≡ with_all l.fn.opaque (flat_map (by_adapter l.types) (take l.adapter-index l.graph.adapters))
