use Rattle.std.proofs.Common.{◌≡◌, ◌++◌, map, drop}
use Rattle.std.specs.List.{flat_map}
use Rattle.pc_spec_plan.specs.Text.{initializer_line}
use Rattle.pc_info.specs.Definitions.{initializer_view}
use Rattle.pc_text.proofs.initializer.put_initializers.Given as goal

abbrev pub invariant-loop-step : goal.invariant-loop-step
invariant-loop-step l =
    l.out.items ++ flat_map initializer_line (map initializer_view (drop l.step-index l.steps))
    ≡ l.fn.out.items ++ flat_map initializer_line (map initializer_view l.steps)
