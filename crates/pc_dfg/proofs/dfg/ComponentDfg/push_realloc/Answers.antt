use Rattle.pc_dfg.proofs.PushLemmas.{realloc_grows, realloc_ordered}
use Rattle.pc_dfg.proofs.dfg.ComponentDfg.push_realloc.Goals as goal

pub returns-clause-grows : goal.returns-clause-grows
returns-clause-grows c = realloc_grows _ _ c.args.func c.intern.ensures.put.0

pub returns-clause-ordered : goal.returns-clause-ordered
returns-clause-ordered c held o = realloc_ordered _ _ c.args.func c.intern.ensures.put.0 held o
