use Rattle.std.proofs.Common.{◌≡◌}
use Rattle.std.specs.Prelude.{replicate}
use Rattle.pc_analysis_imports.specs.Marked.{none_hidden}
use Rattle.pc_analysis_imports.proofs.ambiguous.Ambiguous.new.Given as goal

abbrev pub invariant-loop : goal.invariant-loop
invariant-loop l = l.hidden.items ≡ replicate l.counter none_hidden
