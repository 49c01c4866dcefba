use Rattle.std.proofs.Common.{◌≡◌, ◌++◌}
use Rattle.pc_names.proofs.entries.EntriesTryClone.try_clone.Given as goal

abbrev pub invariant-loop-key : goal.invariant-loop-key
invariant-loop-key g l = l.copy ++ l.key-iterator ≡ l.self
