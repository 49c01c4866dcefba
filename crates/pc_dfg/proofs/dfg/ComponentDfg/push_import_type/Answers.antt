use Rattle.pc_dfg.proofs.PushLemmas.{import_type_grows, import_type_ordered}
use Rattle.pc_dfg.proofs.dfg.ComponentDfg.push_import_type.Goals as goal

pub returns-clause-grows : goal.returns-clause-grows
returns-clause-grows c = import_type_grows _ _ (c.args.name, c.args.ty) c.append.ensures.change

pub returns-clause-ordered : goal.returns-clause-ordered
returns-clause-ordered c o = import_type_ordered _ _ (c.args.name, c.args.ty) c.append.ensures.change tt o
