use Rattle.std.proofs.Common.{take}
use Rattle.pc_inline_names.specs.Tables.{AreTypeNumbers}
use Rattle.pc_inline_names.proofs.AddedLemmas.{Added}
use Rattle.pc_inline_names.proofs.types.add_types.Given as goal

abbrev pub invariant-loop-entry : goal.invariant-loop-entry
invariant-loop-entry l = Added AreTypeNumbers l.fn.texts (take l.entry-index l.entries) l.texts l.all
