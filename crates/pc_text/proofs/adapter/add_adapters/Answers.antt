use Rattle.std.proofs.Common.{refl}
use Rattle.pc_text.proofs.AdapterLemmas.{adapter_added}
use Rattle.pc_text.proofs.adapter.add_adapters.Goals as goal

pub loop-adapter-preserved : goal.loop-adapter-preserved
loop-adapter-preserved c =
    adapter_added c.args.n _ _ _ c.args.adapters.now c.loop-adapter.adapter-index _ _ c.loop-adapter-test.true refl
    c.in_ok-push.ensures.items c.loop-adapter.invariant
