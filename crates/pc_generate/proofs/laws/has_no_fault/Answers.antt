use Rattle.pc_generate.proofs.FaultLemmas.{no_fault}
use Rattle.pc_generate.proofs.laws.has_no_fault.Goals as goal

pub returns : goal.returns
returns c = no_fault
