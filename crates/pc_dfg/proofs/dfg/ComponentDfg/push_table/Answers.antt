use Rattle.pc_dfg.proofs.PushLemmas.{table_grows, table_ordered}
use Rattle.pc_dfg.proofs.dfg.ComponentDfg.push_table.Goals as goal

pub returns-clause-grows : goal.returns-clause-grows
returns-clause-grows c = table_grows _ _ c.args.table c.intern.ensures.put.0

pub returns-clause-ordered : goal.returns-clause-ordered
returns-clause-ordered c held o = table_ordered _ _ c.args.table c.intern.ensures.put.0 held o
