use Rattle.std.proofs.Common.{sym}
use Rattle.pc_input_tokens.proofs.Trees.{listed}
use Rattle.pc_input_tokens.proofs.borrowed.ValueTree.list.Goals as goal

pub returns-in-Array : goal.returns-in-Array
returns-in-Array c = rw (c.in-Array.is, c.as_slice.ensures.value) (sym (listed _))
