use Rattle.pc_dfg.proofs.PushLemmas.{imported_resource_grows, imported_resource_ordered}
use Rattle.pc_dfg.proofs.dfg.ComponentDfg.push_imported_resource.Goals as goal

pub returns-clause-grows : goal.returns-clause-grows
returns-clause-grows c = imported_resource_grows _ _ c.args.import c.append.ensures.change

pub returns-clause-ordered : goal.returns-clause-ordered
returns-clause-ordered c held o = imported_resource_ordered _ _ c.args.import c.append.ensures.change held o
