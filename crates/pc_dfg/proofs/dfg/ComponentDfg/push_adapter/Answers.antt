use Rattle.pc_dfg.proofs.PushLemmas.{adapter_grows, adapter_ordered}
use Rattle.pc_dfg.proofs.dfg.ComponentDfg.push_adapter.Goals as goal

pub returns-clause-grows : goal.returns-clause-grows
returns-clause-grows c = adapter_grows _ _ c.args.adapter c.intern.ensures.put.0

pub returns-clause-ordered : goal.returns-clause-ordered
returns-clause-ordered c held o = adapter_ordered _ _ c.args.adapter c.intern.ensures.put.0 held o
