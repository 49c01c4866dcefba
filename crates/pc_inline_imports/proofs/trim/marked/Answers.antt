use Rattle.std.proofs.Common.{arith}
use Rattle.pc_inline_imports.proofs.TrimLemmas.{all_marked}
use Rattle.pc_inline_imports.proofs.trim.marked.Goals as goal

pub returns : goal.returns
returns c = all_marked _ _ _ _ _ _ c.mark_found.ensures (omega arith) c.mark_parents.ensures
