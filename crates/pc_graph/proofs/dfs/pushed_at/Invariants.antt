use Rattle.std.proofs.Common.{take, reverse}
use Rattle.pc_graph.specs.Steps.{Pushes}
use Rattle.pc_graph.proofs.dfs.pushed_at.Given as goal

abbrev pub invariant-loop-successor : goal.invariant-loop-successor
invariant-loop-successor g l =
    Pushes (λ n answer. goal.S-post g l.seen n answer) l.node (reverse (take l.successor-index l.successor-items))
    (reverse l.pushed.items)
