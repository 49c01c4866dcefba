use Rattle.std.proofs.Common.{◌≤◌, ◌++◌, ◌∙◌, List, ap, sym, subst, length}
use Rattle.std.proofs.lemmas.List.{append-nil}
use Rattle.pc_graph.proofs.ListingLemmas.{row_at-past}
use Rattle.pc_graph.proofs.entity_graph.EntityGraphGraph.successors.Goals as goal

pub returns-in-None-clause-ok : goal.returns-in-None-clause-ok
returns-in-None-clause-ok g c = λ d is.
    let into = c.args.into.now.items in
    let P : List (List g.row.Node.Denot) → Type 0 = λ rows. length rows ≤ c.as_u32.result in
    let past = subst P (c.deref.ensures.value ∙ c.self.view_is) c.in-None.ensures.lookup.3 in
    let none = ap (λ e. e.successors c.args.node) is
    ∙ row_at-past c.args.self.now _ (subst (λ k. length c.args.self.now ≤ k) c.as_u32.ensures past) in
    sym (append-nil into) ∙ ap (λ xs. into ++ xs) (sym none)
