use Rattle.pc_inline_hosts.proofs.HostLemmas.{instance_held}
use Rattle.pc_inline_resources.proofs.WalkedLemmas.{host_none, host_some}
use Rattle.pc_inline_resources.proofs.walked.host_item.Goals as goal

pub host_export-requires-clause-held : goal.host_export-requires-clause-held
host_export-requires-clause-held c = instance_held _ _ _ _ _ c.requires.typed.1

pub returns-in-Some : goal.returns-in-Some
returns-in-Some c name number tree path is =
    host_some _ _ path tree name _ _ (c.host_export.ensures name number c.args.context.now.modules tree is) c.in-Some.is

pub returns-in-None : goal.returns-in-None
returns-in-None c name number tree path is =
    host_none _ _ path tree name _ (c.host_export.ensures name number c.args.context.now.modules tree is) c.in-None.is
