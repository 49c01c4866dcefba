use Rattle.std.proofs.Common.{sym, ◌∙◌}
use Rattle.std.proofs.lemmas.Option.{slice_get_within}
use Rattle.pc_types_lists.proofs.HeldLemmas.{plain_held}
use Rattle.pc_inline_builtins.proofs.TypeLemmas.{context_answer, contexts_now, plain_answer, prim_lacks}
use Rattle.pc_types_builder.specs.Plain.{none_done}
use Rattle.pc_inline_builtins.proofs.values.primitive_type.Goals as goal

pub returns-in_err-error_contexts-in-None-clause-answers :
    goal.returns-in_err-error_contexts-in-None-clause-answers
returns-in_err-error_contexts-in-None-clause-answers c s knows =
    prim_lacks c.error_contexts.new.state _ s knows _ _ _ c.from_residual.ensures.1
    c.in_err-error_contexts-in-None.ensures.err

pub returns-in-Some-clause-answers : goal.returns-in-Some-clause-answers
returns-in-Some-clause-answers c s knows =
    plain_answer c.args.state.now _ s knows _ _ (sym c.plain_type.ensures ∙ c.in-Some.is)

pub returns-in_ok-error_contexts-in-None-clause-answers :
    goal.returns-in_ok-error_contexts-in-None-clause-answers
returns-in_ok-error_contexts-in-None-clause-answers c s knows =
    context_answer c.error_contexts.new.state _ s knows _ (sym c.plain_type.ensures ∙ c.in-None.is) _
    (contexts_now c.error_contexts.new.state c.args.context.now.table.now s knows _
    (c.error_contexts.ensures.converts (none_done 0)).grows.resources _
    c.in_ok-error_contexts-in-None.ensures.is)

pub returns-in-Some-clause-held : goal.returns-in-Some-clause-held
returns-in-Some-clause-held c = plain_held c.args.state.now.types _ _ (sym c.plain_type.ensures ∙ c.in-Some.is)

pub returns-in_ok-error_contexts-in-None-clause-held : goal.returns-in_ok-error_contexts-in-None-clause-held
returns-in_ok-error_contexts-in-None-clause-held c =
    slice_get_within _ _ _ c.in_ok-error_contexts-in-None.ensures.is
