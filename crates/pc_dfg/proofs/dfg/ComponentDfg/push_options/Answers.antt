use Rattle.pc_dfg.proofs.PushLemmas.{options_grows, options_ordered}
use Rattle.pc_dfg.proofs.dfg.ComponentDfg.push_options.Goals as goal

pub returns-clause-grows : goal.returns-clause-grows
returns-clause-grows c = options_grows _ _ c.args.options c.intern.ensures.put.0

pub returns-clause-ordered : goal.returns-clause-ordered
returns-clause-ordered c held o = options_ordered _ _ c.args.options c.intern.ensures.put.0 held o
