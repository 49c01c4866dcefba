use Rattle.std.proofs.Common.{◌≡◌, drop}
use Rattle.pc_info.specs.Exports.{are_behind_their_parts}
use Rattle.pc_test_text.proofs.held.are_behind_their_parts.Given as goal

abbrev pub invariant-loop-n : goal.invariant-loop-n
invariant-loop-n l = are_behind_their_parts 0 l.items ≡ are_behind_their_parts l.n (drop l.n l.items)
