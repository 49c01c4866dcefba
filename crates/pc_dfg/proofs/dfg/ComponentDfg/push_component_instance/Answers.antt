use Rattle.pc_dfg.proofs.EffectLemmas.{component_instance_grows, component_instance_ordered}
use Rattle.pc_dfg.proofs.dfg.ComponentDfg.push_component_instance.Goals as goal

pub returns-then-number-lt4294967295-clause-grows : goal.returns-then-number-lt4294967295-clause-grows
returns-then-number-lt4294967295-clause-grows c = component_instance_grows c.args.self.now

pub returns-then-number-lt4294967295-clause-ordered : goal.returns-then-number-lt4294967295-clause-ordered
returns-then-number-lt4294967295-clause-ordered c o = component_instance_ordered c.args.self.now o
