use Rattle.std.proofs.Common.{Err, ap, sym, subst}
use Rattle.pc_types_builder.specs.Types.{IsFull}
use Rattle.pc_inline_state.proofs.AddsLemmas.{contexts_adds}
use Rattle.pc_inline_state.proofs.NumberLemmas.{types_convert}
use Rattle.pc_inline_state.proofs.RefusedLemmas.{typed_lacks}
use Rattle.pc_inline_state.specs.Tables.{tables_of}
use Rattle.pc_inline_state.proofs.context.Context.error_contexts.Goals as goal

pub returns-in_err-error_context_table_type-clause-err :
    goal.returns-in_err-error_context_table_type-clause-err
returns-in_err-error_context_table_type-clause-err c =
    typed_lacks _ _ _ c.from_residual.ensures.1
    (λ is. c.in_err-error_context_table_type.ensures.never_bad (ap Err is))
    (λ is. subst IsFull (sym c.in_err-error_context_table_type.ensures.err)
    (c.in_err-error_context_table_type.ensures.full (ap Err is)).full)

pub returns-clause-converts : goal.returns-clause-converts
returns-clause-converts c done = types_convert _ _ _ c.error_context_table_type.ensures.grows done

pub returns-clause-adds : goal.returns-clause-adds
returns-clause-adds c =
    contexts_adds c.args.self.now.table.now (tables_of c.args.state.now) c.error_context_table_type.new.self
    c.error_context_table_type.ensures.grows c.requires.begun c.error_context_table_type.ensures.rest
    c.error_context_table_type.ensures.put
