use Rattle.std.proofs.Common.{◌≡◌, ◌++◌}
use Rattle.pc_generate.specs.Generated.{links}
use Rattle.pc_generate.proofs.input.put_links.Given as goal

abbrev pub invariant-loop-number : goal.invariant-loop-number
invariant-loop-number l = l.list ≡ l.fn.list ++ links 0 l.number
