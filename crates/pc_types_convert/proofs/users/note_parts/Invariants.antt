use Rattle.std.proofs.Common.{take}
use Rattle.pc_types_convert.proofs.NotedLemmas.{NotesEach}
use Rattle.pc_types_convert.proofs.users.note_parts.Given as goal

abbrev pub invariant-loop-p : goal.invariant-loop-p
invariant-loop-p l = NotesEach l.own l.k (take l.p-index l.parts) l.fn.users l.users
