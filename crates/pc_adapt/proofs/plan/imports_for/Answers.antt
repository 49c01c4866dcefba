use Rattle.std.proofs.Common.{◌∙◌}
use Rattle.pc_types_lists.specs.Facts.{join}
use Rattle.pc_adapt.specs.Asked.{facts_view}
use Rattle.pc_adapt.proofs.ImportLemmas.{imports_made}
use Rattle.pc_adapt.proofs.plan.imports_for.Goals as goal

pub returns : goal.returns
returns c =
    imports_made c.args.adapter.now (facts_view c.args.lift)
    (facts_view c.args.lower) c.args.transparent c.new-imports.result.items
    c.put_definitions.new.imports.items c.put_strings.new.imports.items c.put_transfers.new.imports.items
    c.put_calls.new.imports.items c.put.new.imports.items c.join.result c.is_async-async_.result
    c.new-imports.ensures.items c.in_ok-put_definitions.ensures c.in_ok-put_strings.ensures
    (c.join.ensures ∙ (λ i. join (c.join-lifted.ensures i) (c.join-lowered.ensures i)))
    c.in_ok-put_transfers.ensures c.is_async-async_.ensures c.in_ok-put_calls.ensures c.in_ok-put.ensures
