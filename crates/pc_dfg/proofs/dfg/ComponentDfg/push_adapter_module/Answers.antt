use Rattle.pc_dfg.proofs.PushLemmas.{adapter_module_grows, adapter_module_ordered}
use Rattle.pc_dfg.proofs.dfg.ComponentDfg.push_adapter_module.Goals as goal

pub returns-clause-grows : goal.returns-clause-grows
returns-clause-grows c = adapter_module_grows _ _ (c.args.static_module, c.args.args) c.append.ensures.change

pub returns-clause-ordered : goal.returns-clause-ordered
returns-clause-ordered c held o = adapter_module_ordered _ _
    (c.args.static_module, c.args.args) c.append.ensures.change held o
