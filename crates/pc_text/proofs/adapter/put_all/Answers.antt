use Rattle.pc_spec_plan.specs.Text.{adapter_line}
use Rattle.pc_text.specs.Placed.{placed_view}
use Rattle.pc_text.proofs.Entries.{line_done}
use Rattle.pc_text.proofs.adapter.put_all.Goals as goal

pub loop-placed-preserved : goal.loop-placed-preserved
loop-placed-preserved c =
    line_done adapter_line placed_view _ _ _ c.args.all.now c.loop-placed.placed-index _ c.loop-placed-test.true
    c.in_ok-put_adapter.ensures c.loop-placed.invariant
