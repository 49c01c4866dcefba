use Rattle.pc_inline_state.specs.Tables.{tables_of}
use Rattle.pc_inline_resources.proofs.LoopLemmas.{ItemsSoFar}
use Rattle.pc_inline_resources.proofs.walked.items_at.Given as goal

-- at each place before this one stands what is along the names that lead to it
abbrev pub invariant-loop-place : goal.invariant-loop-place
invariant-loop-place l =
    ItemsSoFar l.context.table.now l.context.modules (tables_of l.state) l.start l.places l.items l.place-index
