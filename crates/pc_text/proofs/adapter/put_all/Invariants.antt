use Rattle.std.proofs.Common.{◌≡◌, ◌++◌, map, drop}
use Rattle.std.specs.List.{flat_map}
use Rattle.pc_spec_plan.specs.Text.{adapter_line}
use Rattle.pc_text.specs.Placed.{placed_view}
use Rattle.pc_text.proofs.adapter.put_all.Given as goal

abbrev pub invariant-loop-placed : goal.invariant-loop-placed
invariant-loop-placed l =
    l.out.items ++ flat_map adapter_line (map placed_view (drop l.placed-index l.all))
    ≡ l.fn.out.items ++ flat_map adapter_line (map placed_view l.all)
