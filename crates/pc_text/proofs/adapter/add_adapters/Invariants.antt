use Rattle.std.proofs.Common.{◌≡◌, ◌++◌, map, drop}
use Rattle.pc_info.specs.Modules.{adapter_view}
use Rattle.pc_text.specs.Placed.{placed_view}
use Rattle.pc_text.proofs.adapter.add_adapters.Given as goal

abbrev pub invariant-loop-adapter : goal.invariant-loop-adapter
invariant-loop-adapter l =
    map placed_view l.all.items ++ map (adapter_view l.n) (drop l.adapter-index l.adapters)
    ≡ map placed_view l.fn.all.items ++ map (adapter_view l.n) l.adapters
