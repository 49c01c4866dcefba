use Rattle.std.proofs.Common.{◌≡◌, drop}
use Rattle.std.specs.Prelude.{max}
use Rattle.pc_spec_reading.specs.Total.{entry_imports, greatest}
use Rattle.pc_weights.proofs.scale.most_of_types.Given as goal

abbrev pub invariant-loop-entry : goal.invariant-loop-entry
invariant-loop-entry l =
    max l.most (greatest entry_imports (drop l.entry-index l.types)) ≡ greatest entry_imports l.types
