use Rattle.pc_adapt_groups.proofs.GroupLemmas.{Grouped}
use Rattle.pc_adapt_groups.proofs.runs.fewest_runs.Given as goal

abbrev pub invariant-loop-a : goal.invariant-loop-a
invariant-loop-a l = Grouped l.needed l.a l.start l.lengths.items
