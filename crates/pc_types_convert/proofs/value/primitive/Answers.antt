use Rattle.std.proofs.Common.{ap, false, refl, sym, true≢false, ◌∙◌}
use Rattle.pc_types_lists.specs.Primitive.{plain_type}
use Rattle.pc_types_convert.proofs.AddsLemmas.{contexts_same, contexts_weaker}
use Rattle.std.specs.Prelude.{is_some}
use Rattle.pc_types_convert.proofs.PartLemmas.{table_of}
use Rattle.pc_types_lists.proofs.ErrorLemmas.{passed_on}
use Rattle.pc_types_convert.proofs.value.primitive.Goals as goal

pub returns-in_err-error_contexts-in-None-clause-full : goal.returns-in_err-error_contexts-in-None-clause-full
returns-in_err-error_contexts-in-None-clause-full c =
    passed_on c.from_residual.result c.in_err-error_contexts-in-None.field-0.0 _ _ _ c.from_residual.ensures.1
    c.in_err-error_contexts-in-None.ensures.full
    (λ next g is q. table_of next c.args.p q.0 (sym c.plain_type.ensures ∙ c.in-None.is) q.1)

pub returns-in_err-error_contexts-in-None-clause-contexts : goal.returns-in_err-error_contexts-in-None-clause-contexts
returns-in_err-error_contexts-in-None-clause-contexts c =
    contexts_weaker false (is_some (plain_type c.args.p))
    (λ h. absurd (true≢false (sym h ∙ ap is_some (sym c.plain_type.ensures ∙ c.in-None.is)))) _ _
    c.error_contexts.ensures.contexts

pub returns-in_ok-error_contexts-in-None-clause-contexts : goal.returns-in_ok-error_contexts-in-None-clause-contexts
returns-in_ok-error_contexts-in-None-clause-contexts c =
    contexts_weaker false (is_some (plain_type c.args.p))
    (λ h. absurd (true≢false (sym h ∙ ap is_some (sym c.plain_type.ensures ∙ c.in-None.is)))) _ _
    c.error_contexts.ensures.contexts

pub returns-in-Some-clause-contexts : goal.returns-in-Some-clause-contexts
returns-in-Some-clause-contexts c = contexts_same _ _ _ refl
