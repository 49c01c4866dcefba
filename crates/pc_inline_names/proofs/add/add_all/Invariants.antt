use Rattle.std.proofs.Common.{map, take}
use Rattle.pc_inline_names.proofs.AddedLemmas.{Added, Numbered}
use Rattle.pc_inline_names.proofs.add.add_all.Given as goal

abbrev pub invariant-loop-entry : goal.invariant-loop-entry
invariant-loop-entry g l =
    Added Numbered l.fn.texts (map g.T.HasName.name_of (take l.entry-index l.entries)) l.texts l.numbers
