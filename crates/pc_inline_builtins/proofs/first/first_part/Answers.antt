use Rattle.pc_inline_builtins.proofs.TypeLemmas.{contexts_hold, contexts_now}
use Rattle.pc_inline_builtins.proofs.YieldLemmas.{contexts_first, handle_first, handle_stuck, nothing_first, number_first}
use Rattle.pc_inline_builtins.proofs.YieldLemmas.{part_lacks, results_first, results_stuck}
use Rattle.pc_types_builder.specs.Plain.{none_done}
use Rattle.pc_inline_builtins.proofs.first.first_part.Goals as goal

pub returns-in_err-ty-in-Handle-clause-yields : goal.returns-in_err-ty-in-Handle-clause-yields
returns-in_err-ty-in-Handle-clause-yields c s knows =
    handle_stuck _ _ s _ _ _ c.in-Handle.is _ _ c.from_residual.ensures.1
    (c.in_err-ty-in-Handle.ensures.answers s knows)

pub returns-in_err-ty-in-Results-clause-yields : goal.returns-in_err-ty-in-Results-clause-yields
returns-in_err-ty-in-Results-clause-yields c s knows =
    results_stuck _ _ s _ _ c.in-Results.is _ _ c.from_residual-in_err-ty-in-Results.ensures.1
    (c.in_err-ty-in-Results.ensures.answers s knows)

pub returns-in_err-table-in-ErrorContexts-clause-yields : goal.returns-in_err-table-in-ErrorContexts-clause-yields
returns-in_err-table-in-ErrorContexts-clause-yields c s knows =
    part_lacks c.error_contexts.new.state _ _ _ c.from_residual-in_err-table-in-ErrorContexts.ensures.1
    c.in_err-table-in-ErrorContexts.ensures.err

pub returns-in-Nothing-clause-yields : goal.returns-in-Nothing-clause-yields
returns-in-Nothing-clause-yields c s knows = nothing_first _ _ s _ c.in-Nothing.is

pub returns-in_ok-ty-in-Handle-clause-yields : goal.returns-in_ok-ty-in-Handle-clause-yields
returns-in_ok-ty-in-Handle-clause-yields c s knows =
    handle_first _ _ s _ _ _ c.in-Handle.is _ (c.in_ok-ty-in-Handle.ensures.answers s knows)

pub returns-in_ok-ty-in-Results-clause-yields : goal.returns-in_ok-ty-in-Results-clause-yields
returns-in_ok-ty-in-Results-clause-yields c s knows =
    results_first _ _ s _ _ c.in-Results.is _ (c.in_ok-ty-in-Results.ensures.answers s knows)

pub returns-in_ok-table-in-ErrorContexts-clause-yields : goal.returns-in_ok-table-in-ErrorContexts-clause-yields
returns-in_ok-table-in-ErrorContexts-clause-yields c s knows =
    contexts_first _ _ s _ _ c.in-ErrorContexts.is
    (contexts_hold c.error_contexts.new.state c.args.context.now.table.now s knows _
    (contexts_now c.error_contexts.new.state c.args.context.now.table.now s knows _
    (c.error_contexts.ensures.converts (none_done 0)).grows.resources _
    c.in_ok-table-in-ErrorContexts.ensures.is))

pub returns-in-Number-clause-yields : goal.returns-in-Number-clause-yields
returns-in-Number-clause-yields c s knows = number_first _ _ s _ _ c.in-Number.is
