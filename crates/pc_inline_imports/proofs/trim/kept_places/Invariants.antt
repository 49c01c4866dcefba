use Rattle.pc_inline_imports.proofs.TrimLemmas.{KeptSoFar}
use Rattle.pc_inline_imports.proofs.trim.kept_places.Given as goal

-- the first are kept or passed over
abbrev pub invariant-loop-number : goal.invariant-loop-number
invariant-loop-number l = KeptSoFar l.places l.marks l.number l.kept l.numbers.items
