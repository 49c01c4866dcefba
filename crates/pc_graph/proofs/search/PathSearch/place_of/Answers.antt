use Rattle.std.proofs.Common.{◌∙◌, ap, sym}
use Rattle.pc_entity.specs.SecondaryMap.{value_at}
use Rattle.pc_graph.proofs.HeldLemmas.{noted_closed, noted_place, noted_unmet}
use Rattle.pc_graph.proofs.search.PathSearch.place_of.Goals as goal

pub returns-in-Unmet : goal.returns-in-Unmet
returns-in-Unmet g c = λ s stands.
    let number = g.Node.EntityRef.number in
    noted_unmet number c.args.self.now s c.args.node stands
    (ap (λ held. value_at held.noted (number c.args.node)) (sym c.self.view_is) ∙ sym c.get.ensures ∙ c.in-Unmet.is)

pub returns-in-OnStack : goal.returns-in-OnStack
returns-in-OnStack g c = λ s stands.
    let number = g.Node.EntityRef.number in
    noted_place number c.args.self.now s c.args.node c.in-OnStack.place stands
    (ap (λ held. value_at held.noted (number c.args.node)) (sym c.self.view_is) ∙ sym c.get.ensures ∙ c.in-OnStack.is)

pub returns-in-Closed : goal.returns-in-Closed
returns-in-Closed g c = λ s stands.
    let number = g.Node.EntityRef.number in
    noted_closed number c.args.self.now s c.args.node stands
    (ap (λ held. value_at held.noted (number c.args.node)) (sym c.self.view_is) ∙ sym c.get.ensures ∙ c.in-Closed.is)
