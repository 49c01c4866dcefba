use Rattle.std.proofs.Common.{◌≡◌, ◌++◌, map, drop}
use Rattle.pc_info.specs.Modules.{adapters_view}
use Rattle.pc_text.specs.Placed.{placed_view}
use Rattle.pc_text.proofs.adapter.all_adapters.Given as goal

abbrev pub invariant-loop-n : goal.invariant-loop-n
invariant-loop-n l =
    map placed_view l.all.items ++ adapters_view l.n (drop l.n l.modules) ≡ adapters_view 0 l.modules
