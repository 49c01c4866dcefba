use Rattle.pc_inline_paths.proofs.WrittenLemmas.{IsWritten}
use Rattle.pc_inline_paths.proofs.paths.Paths.names.Given as goal

abbrev pub invariant-steps : goal.invariant-steps
invariant-steps l = IsWritten l.self.held l.fn.id l.at l.names.items

abbrev pub decreases-steps : goal.decreases-steps
decreases-steps l = l.at.0
