use Rattle.pc_generate.proofs.CountLemmas.{numbered}
use Rattle.pc_generate.proofs.laws.can_be_numbered.Goals as goal

pub returns : goal.returns
returns c = numbered
