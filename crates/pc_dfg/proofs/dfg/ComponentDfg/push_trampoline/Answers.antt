use Rattle.pc_dfg.proofs.PushLemmas.{trampoline_grows, trampoline_ordered}
use Rattle.pc_dfg.proofs.dfg.ComponentDfg.push_trampoline.Goals as goal

pub returns-clause-grows : goal.returns-clause-grows
returns-clause-grows c = trampoline_grows _ _ (c.args.signature, c.args.trampoline) c.intern.ensures.put.0

pub returns-clause-ordered : goal.returns-clause-ordered
returns-clause-ordered c held o = trampoline_ordered _ _
    (c.args.signature, c.args.trampoline) c.intern.ensures.put.0 held o
