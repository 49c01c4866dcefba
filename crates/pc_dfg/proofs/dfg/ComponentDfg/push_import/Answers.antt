use Rattle.pc_dfg.proofs.PushLemmas.{import_grows, import_ordered}
use Rattle.pc_dfg.proofs.dfg.ComponentDfg.push_import.Goals as goal

pub returns-clause-grows : goal.returns-clause-grows
returns-clause-grows c = import_grows _ _ (c.args.import, c.args.names) c.append.ensures.change

pub returns-clause-ordered : goal.returns-clause-ordered
returns-clause-ordered c held o = import_ordered _ _ (c.args.import, c.args.names) c.append.ensures.change held o
