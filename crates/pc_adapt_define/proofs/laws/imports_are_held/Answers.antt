use Rattle.pc_adapt_define.proofs.OwnLemmas.{imports_held}
use Rattle.pc_adapt_define.proofs.laws.imports_are_held.Goals as goal

pub returns : goal.returns
returns c g a x lift lower clear o at = imports_held g a x lift lower clear o.held at
