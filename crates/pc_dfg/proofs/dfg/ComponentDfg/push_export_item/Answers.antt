use Rattle.pc_dfg.proofs.PushLemmas.{export_item_grows, export_item_ordered}
use Rattle.pc_dfg.proofs.dfg.ComponentDfg.push_export_item.Goals as goal

pub returns-clause-grows : goal.returns-clause-grows
returns-clause-grows c = export_item_grows _ _ c.args.item c.append.ensures.change

pub returns-clause-ordered : goal.returns-clause-ordered
returns-clause-ordered c held o = export_item_ordered _ _ c.args.item c.append.ensures.change held o
