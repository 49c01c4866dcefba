use Rattle.std.proofs.Common.{◌≡◌, length, take, false}
use Rattle.pc_analysis_imports.specs.Exported.{is_exported_in}
use Rattle.pc_analysis_imports.specs.Ways.{AreWays}
use Rattle.pc_analysis_imports.proofs.ways.ways.Given as goal

abbrev pub invariant-loop-step : goal.invariant-loop-step
invariant-loop-step l =
    (length l.ways.items ≡ l.fn.modules)
    × AreWays (λ m. false) (take l.step-index l.component.initializers) l.ways.items

abbrev pub invariant-loop-item : goal.invariant-loop-item
invariant-loop-item l =
    (length l.ways.items ≡ l.fn.modules)
    × AreWays (is_exported_in (take l.item-index l.component.export_items)) l.component.initializers l.ways.items
