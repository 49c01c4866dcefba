use Rattle.pc_dfg.proofs.PushLemmas.{partitioning_grows, partitioning_ordered}
use Rattle.pc_dfg.proofs.dfg.ComponentDfg.push_partitioning.Goals as goal

pub returns-clause-grows : goal.returns-clause-grows
returns-clause-grows c = partitioning_grows _ _ (c.args.adapter_module, c.args.func) c.append.ensures.change

pub returns-clause-ordered : goal.returns-clause-ordered
returns-clause-ordered c held o = partitioning_ordered _ _
    (c.args.adapter_module, c.args.func) c.append.ensures.change held o
