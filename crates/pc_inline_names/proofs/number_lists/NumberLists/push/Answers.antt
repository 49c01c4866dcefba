use Rattle.std.proofs.Common.{[], ◌∷◌, ◌++◌, List, length, subst, sym, ap, ◌∙◌, arith}
use Rattle.std.proofs.lemmas.List.{length-append}
use Rattle.pc_entity.specs.declared.string_pool.Atom.{Atom}
use Rattle.pc_inline_names.specs.Lists.{Ascend, Lists}
use Rattle.pc_inline_names.proofs.ListLemmas.{ascend_more, lists_push}
use Rattle.pc_inline_names.proofs.number_lists.NumberLists.push.Goals as goal

pub invariant_of-self : goal.invariant_of-self
invariant_of-self c =
    subst (λ (ns : List Atom). Ascend 0 c.self.inside.ends (length ns)) (sym c.in_err-push.ensures.err) c.self.invariant

pub invariant_of-self-2 : goal.invariant_of-self-2
invariant_of-self-2 c =
    let numbers = c.self.inside.numbers in
    subst (λ (ns : List Atom). Ascend 0 c.self.inside.ends (length ns)) (sym c.in_ok-push.ensures.ok)
    (ascend_more 0 c.self.inside.ends (length numbers) (length (numbers ++ c.args.number ∷ []))
    (let longer = length-append numbers (c.args.number ∷ []) in omega (arith, longer)) c.self.invariant)

pub returns-clause-ok : goal.returns-clause-ok
returns-clause-ok c =
    lists_push c.self.inside.numbers c.push.new.self c.self.inside.ends c.args.number c.self.invariant
    c.in_ok-push.ensures.ok
    ∙ ap (λ (l : Lists). record { ended = l.ended; open_list = l.open_list ++ c.args.number ∷ [] }) c.self.view_is
