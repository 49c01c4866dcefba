use Rattle.std.proofs.Common.{◌≡◌, ◌++◌, drop}
use Rattle.pc_spec_plan.specs.Text.{spaced_names}
use Rattle.pc_text.proofs.import.put_names.Given as goal

abbrev pub invariant-loop-name : goal.invariant-loop-name
invariant-loop-name l =
    l.out.items ++ spaced_names (drop l.name-index l.names) ≡ l.fn.out.items ++ spaced_names l.names
