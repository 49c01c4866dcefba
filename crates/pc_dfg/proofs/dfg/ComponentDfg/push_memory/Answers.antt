use Rattle.pc_dfg.proofs.PushLemmas.{memory_grows, memory_ordered}
use Rattle.pc_dfg.proofs.dfg.ComponentDfg.push_memory.Goals as goal

pub returns-clause-grows : goal.returns-clause-grows
returns-clause-grows c = memory_grows _ _ c.args.memory c.intern.ensures.put.0

pub returns-clause-ordered : goal.returns-clause-ordered
returns-clause-ordered c held o = memory_ordered _ _ c.args.memory c.intern.ensures.put.0 held o
