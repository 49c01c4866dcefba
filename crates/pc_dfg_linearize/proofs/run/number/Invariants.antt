use Rattle.std.proofs.Common.{sum_by}
use Rattle.pc_dfg_linearize.specs.Stack.{Ongoing}
use Rattle.pc_dfg_linearize.specs.Work.{weight}
use Rattle.pc_dfg_linearize.proofs.run.number.Given as goal

abbrev pub invariant-tasks : goal.invariant-tasks
invariant-tasks l = Ongoing l.graph l.initial.finish l.finish l.fn.id l.tasks.items

abbrev pub decreases-tasks : goal.decreases-tasks
decreases-tasks l = sum_by (weight l.graph) l.tasks.items
