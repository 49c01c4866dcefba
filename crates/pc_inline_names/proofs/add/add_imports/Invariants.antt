use Rattle.std.proofs.Common.{take}
use Rattle.pc_inline_names.specs.Numbers.{AreNumbers}
use Rattle.pc_inline_names.proofs.AddedLemmas.{Added}
use Rattle.pc_inline_names.proofs.add.add_imports.Given as goal

abbrev pub invariant-loop-import : goal.invariant-loop-import
invariant-loop-import l = Added AreNumbers l.fn.texts (take l.import-index l.imports) l.texts l.numbers
