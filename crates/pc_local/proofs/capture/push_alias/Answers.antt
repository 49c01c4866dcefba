use Rattle.std.proofs.lemmas.Result.{on_ok_weaker}
use Rattle.pc_local.proofs.PartLemmas.{core_goes, export_goes}
use Rattle.pc_local.proofs.capture.push_alias.Goals as goal

pub returns-in_ok-try_clone-in-InstanceExport : goal.returns-in_ok-try_clone-in-InstanceExport
returns-in_ok-try_clone-in-InstanceExport c =
    on_ok_weaker c.push.result
    (λ is. export_goes c.args.alias.now c.args.items.now c.push.new.self c.args.modules.now.items
    c.args.components.now.items c.in-InstanceExport.instance c.in-InstanceExport.name
    c.in_ok-try_clone-in-InstanceExport.field-0 c.in_ok-try_clone-in-InstanceExport.ensures c.in-InstanceExport.kind
    c.in-InstanceExport.is is)
    c.push.ensures.ok

pub returns-in_ok-try_clone-in-CoreInstanceExport : goal.returns-in_ok-try_clone-in-CoreInstanceExport
returns-in_ok-try_clone-in-CoreInstanceExport c =
    on_ok_weaker c.push-in-CoreInstanceExport.result
    (λ is. core_goes c.args.alias.now c.args.items.now c.push-in-CoreInstanceExport.new.self c.args.modules.now.items
    c.args.components.now.items c.in-CoreInstanceExport.instance c.in-CoreInstanceExport.name
    c.in_ok-try_clone-in-CoreInstanceExport.field-0 c.in_ok-try_clone-in-CoreInstanceExport.ensures
    c.in-CoreInstanceExport.kind c.in-CoreInstanceExport.is is)
    c.push-in-CoreInstanceExport.ensures.ok
