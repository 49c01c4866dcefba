use Rattle.std.proofs.Common.{Some, ap, sym, ◌∙◌}
use Rattle.pc_types_lists.specs.Types.{Resources}
use Rattle.pc_types_lists.proofs.Growth.{too_full}
use Rattle.pc_types_convert.proofs.AddsLemmas.{contexts_put}
use Rattle.pc_types_convert.proofs.value.error_contexts.Goals as goal

pub returns-clause-full : goal.returns-clause-full
returns-clause-full c h =
    too_full _ _ _
    (λ next g is q. (
      q.0.0,
      q.1
          ∙ ap (λ i. Some (record { instance = i }))
          (ap (λ (r : Resources). r.current) (g.resources ∙ c.put_error_context_table.ensures.grows.resources)
          ∙ sym (c.current_instance-instance.ensures ∙ ap (λ (r : Resources). r.current) c.resources.ensures)),
    ))
    (c.put_error_context_table.ensures.full h)

pub returns-clause-contexts : goal.returns-clause-contexts
returns-clause-contexts c =
    contexts_put _ _ _ (c.current_instance-instance.ensures ∙ ap (λ (r : Resources). r.current) c.resources.ensures)
    c.put_error_context_table.ensures.rest c.put_error_context_table.ensures.put
