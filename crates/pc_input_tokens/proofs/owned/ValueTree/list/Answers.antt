use Rattle.std.proofs.Common.{Some, sym, ap}
use Rattle.pc_input_tokens.proofs.Trees.{elements-items_of}
use Rattle.pc_input_tokens.proofs.owned.ValueTree.list.Goals as goal

pub returns : goal.returns
returns c = rw (← c.in_ok-items.ensures, c.as_slice.ensures.value) (ap Some (sym (elements-items_of _)))
