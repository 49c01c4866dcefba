use Rattle.pc_dfg.proofs.PushLemmas.{post_return_grows, post_return_ordered}
use Rattle.pc_dfg.proofs.dfg.ComponentDfg.push_post_return.Goals as goal

pub returns-clause-grows : goal.returns-clause-grows
returns-clause-grows c = post_return_grows _ _ c.args.func c.intern.ensures.put.0

pub returns-clause-ordered : goal.returns-clause-ordered
returns-clause-ordered c held o = post_return_ordered _ _ c.args.func c.intern.ensures.put.0 held o
