use Rattle.std.proofs.Common.{[], ◌∷◌, ◌++◌, ℕ, List, length, subst, sym, ap, ◌∙◌}
use Rattle.pc_inline_names.specs.Lists.{Ascend, Lists}
use Rattle.pc_inline_names.proofs.ListLemmas.{ascend_push, lists_end}
use Rattle.pc_inline_names.proofs.number_lists.NumberLists.end_list.Goals as goal

pub invariant_of-self : goal.invariant_of-self
invariant_of-self c =
    subst (λ (es : List ℕ). Ascend 0 es (length c.self.inside.numbers)) (sym c.in_err-push.ensures.err)
    c.self.invariant

pub invariant_of-self-2 : goal.invariant_of-self-2
invariant_of-self-2 c =
    let numbers = c.self.inside.numbers in
    let ends = c.self.inside.ends in
    subst (λ (es : List ℕ). Ascend 0 es (length numbers))
    (sym (c.in_ok-push.ensures.ok ∙ ap (λ (n : ℕ). ends ++ n ∷ []) c.len-end.ensures))
    (ascend_push 0 ends (length numbers) c.self.invariant)

pub returns-clause-ok : goal.returns-clause-ok
returns-clause-ok c =
    lists_end c.self.inside.numbers c.self.inside.ends c.push.new.self c.self.invariant
    (c.in_ok-push.ensures.ok ∙ ap (λ (n : ℕ). c.self.inside.ends ++ n ∷ []) c.len-end.ensures)
    ∙ ap (λ (l : Lists). record { ended = l.ended ++ l.open_list ∷ []; open_list = [] }) c.self.view_is
