use Rattle.std.proofs.Common.{All, take}
use Rattle.pc_dfg_linearize.specs.Arguments.{OnlyFromThese}
use Rattle.pc_dfg_finish.specs.Exports.{GoesFurther, IsExportable, in_exports}
use Rattle.pc_dfg_finish.proofs.exports.number_items.Given as goal

abbrev pub invariant-loop-item : goal.invariant-loop-item
invariant-loop-item l =
    GoesFurther l.graph l.initial.finish l.finish
    × All (IsExportable l.graph l.finish) (take l.item-index l.graph.export_items)
    × OnlyFromThese l.graph l.initial.finish l.finish (in_exports l.graph (take l.item-index l.graph.export_items))
