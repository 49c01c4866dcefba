use Rattle.std.proofs.Common.{◌≡◌, Some, take}
use Rattle.pc_inline_items.specs.Captures.{captured_ids}
use Rattle.pc_inline_items.proofs.components.captured_ids.Given as goal

abbrev pub invariant-loop-variable : goal.invariant-loop-variable
invariant-loop-variable g l =
    Some l.found ≡ captured_ids g.V.AsVariable.variable_of l.ids l.captured (take l.variable-index l.variables)
