use Rattle.std.proofs.Common.{take}
use Rattle.pc_inline_names.specs.Numbers.{HasNumbers}
use Rattle.pc_inline_names.proofs.modules.numbered_values.Given as goal

abbrev pub invariant-loop-export : goal.invariant-loop-export
invariant-loop-export l = HasNumbers l.texts (take l.export-index l.exports) l.numbered
