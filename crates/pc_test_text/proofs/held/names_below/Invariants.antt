use Rattle.std.proofs.Common.{◌≡◌, length}
use Rattle.pc_info.specs.Exports.{names_below}
use Rattle.pc_test_text.proofs.held.names_below.Given as goal

abbrev pub invariant-names : goal.invariant-names
invariant-names l = names_below l.count l.fn.names ≡ names_below l.count l.left

abbrev pub decreases-names : goal.decreases-names
decreases-names l = length l.left
