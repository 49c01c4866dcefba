use Rattle.pc_numbers.specs.declared.runtime.RuntimeImportIndex.{RuntimeImportIndex}
use Rattle.pc_spec_plan.specs.Text.{imported_resource_line}
use Rattle.pc_text.proofs.Entries.{numbered_done}
use Rattle.pc_text.proofs.import.put_imported_resources.Goals as goal

pub loop-n-preserved : goal.loop-n-preserved
loop-n-preserved c =
    numbered_done imported_resource_line (λ (r : RuntimeImportIndex). r.0) _ _ _ c.args.resources.now c.loop-n.n _
    c.loop-n-test.true c.in_ok-put_imported_resource.ensures c.loop-n.invariant
