use Rattle.std.proofs.Common.{reverse}
use Rattle.pc_spec_reading.specs.Once.{each_once}
use Rattle.pc_spec_reading.specs.Resource.{same_number}
use Rattle.pc_types_walk.specs.Leads.{paths_of}
use Rattle.pc_types_walk.specs.Steps.{Goes, has, work}
use Rattle.pc_types_walk.proofs.walk.walk_instance.Given as goal

abbrev pub invariant-loop-top : goal.invariant-loop-top
invariant-loop-top l =
    Goes l.fn.table l.fn.leads (each_once same_number (paths_of l.fn.table l.fn.n)) (has l.walker.met)
    (has l.walker.visited) (reverse l.walker.stack.items) l.walker.walk

abbrev pub decreases-loop-top : goal.decreases-loop-top
decreases-loop-top l = work l.fn.leads (has l.walker.visited) (reverse l.walker.stack.items)
