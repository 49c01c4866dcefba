use Rattle.pc_dfg.proofs.PushLemmas.{callback_grows, callback_ordered}
use Rattle.pc_dfg.proofs.dfg.ComponentDfg.push_callback.Goals as goal

pub returns-clause-grows : goal.returns-clause-grows
returns-clause-grows c = callback_grows _ _ c.args.func c.intern.ensures.put.0

pub returns-clause-ordered : goal.returns-clause-ordered
returns-clause-ordered c held o = callback_ordered _ _ c.args.func c.intern.ensures.put.0 held o
