use Rattle.pc_dfg.proofs.PushLemmas.{export_grows, export_ordered, result_changes}
use Rattle.pc_dfg.proofs.dfg.ComponentDfg.push_export.Goals as goal

pub returns-clause-grows : goal.returns-clause-grows
returns-clause-grows c =
    export_grows _ _ (c.args.name, (c.args.item, c.args.data_))
    (result_changes c.push.result _ _ _ c.push.ensures.ok c.push.ensures.err)

pub returns-clause-ordered : goal.returns-clause-ordered
returns-clause-ordered c held o =
    export_ordered _ _ (c.args.name, (c.args.item, c.args.data_))
    (result_changes c.push.result _ _ _ c.push.ensures.ok c.push.ensures.err) held o
