use Rattle.pc_dfg.proofs.TraceLemmas.{one_trace}
use Rattle.pc_dfg.proofs.laws.one_trace.Goals as goal

pub returns : goal.returns
returns c = one_trace
