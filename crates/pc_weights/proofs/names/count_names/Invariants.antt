use Rattle.std.proofs.Common.{◌≡◌, [], map, take}
use Rattle.pc_spec_reading.specs.Total.{names_from}
use Rattle.pc_weights.specs.Capped.{capped}
use Rattle.pc_weights.proofs.names.count_names.Given as goal

abbrev pub invariant-loop-entry : goal.invariant-loop-entry
invariant-loop-entry l = l.names.items ≡ map capped (names_from [] (take l.entry-index l.types))
