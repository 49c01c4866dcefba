use Rattle.std.proofs.Common.{take}
use Rattle.pc_types_convert.proofs.NeededLemmas.{Opens}
use Rattle.pc_types_convert.proofs.parts.open_entries.Given as goal

abbrev pub invariant-loop-n : goal.invariant-loop-n
invariant-loop-n l = Opens l.done.all (take l.n-index l.ns) l.fn.opened.keys l.opened.keys
