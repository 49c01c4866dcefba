use Rattle.pc_text.proofs.AdapterLemmas.{adapters_added}
use Rattle.pc_text.proofs.adapter.all_adapters.Goals as goal

pub loop-n-preserved : goal.loop-n-preserved
loop-n-preserved c =
    adapters_added c.loop-n.n _ _ _ c.args.modules.now c.index-modules-n.result _ c.loop-n-test.true
    c.index-modules-n.is c.as_slice.ensures c.in_ok-add_adapters.ensures c.loop-n.invariant
