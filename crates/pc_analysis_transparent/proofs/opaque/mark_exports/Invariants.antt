use Rattle.std.proofs.Common.{◌≡◌, take}
use Rattle.std.specs.List.{flat_map}
use Rattle.pc_analysis_transparent.specs.Opened.{by_export, with_all}
use Rattle.pc_analysis_transparent.proofs.opaque.mark_exports.Given as goal

abbrev pub invariant-loop-item : goal.invariant-loop-item
invariant-loop-item l =
    l.opaque ≡ with_all l.fn.opaque (flat_map (by_export l.graph) (take l.item-index l.graph.export_items))
