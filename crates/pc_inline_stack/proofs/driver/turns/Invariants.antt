use Rattle.std.proofs.Common.{Ok, reverse}
use Rattle.std.specs.Prelude.{⊤}
use Rattle.pc_inline_stack.specs.Stacks.{AreCounted, Moves, work}
use Rattle.pc_inline_stack.proofs.driver.turns.Given as goal

abbrev pub invariant-moves : goal.invariant-moves
invariant-moves l =
    Moves l.context.table.now l.context.modules l.limit l.root {A = ⊤} l.initial.state
    (reverse l.initial.stack.callers.items) l.initial.stack.top l.initial.stack.total l.state
    (reverse l.stack.callers.items) l.stack.top l.stack.total (Ok tt) × AreCounted l.stack.callers.items

abbrev pub decreases-moves : goal.decreases-moves
decreases-moves l =
    work l.limit l.state.bodies.now l.root l.state.graph.num_runtime_component_instances
    (reverse l.stack.callers.items) l.stack.top
