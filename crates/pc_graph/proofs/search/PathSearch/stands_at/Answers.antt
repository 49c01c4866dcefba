use Rattle.std.proofs.Common.{◌≡◌, ◌∙◌, Some, None, true, true≢false, ap, sym, subst, slice_get}
use Rattle.std.proofs.lemmas.Option.{slice_get-get_or, slice_get_past}
use Rattle.pc_graph.proofs.search.PathSearch.stands_at.Goals as goal

pub returns-in-Some : goal.returns-in-Some
returns-in-Some g c =
    let eq = g.Node.PartialEq.eq in
    let there = c.in-Some.there.now in
    let found : slice_get c.args.self.now.stack c.args.place ≡ Some there =
    ap (λ held. slice_get held.stack c.args.place) (sym c.self.view_is)
    ∙ ap (λ ns. slice_get ns c.args.place) (sym c.deref.ensures.value)
    ∙ slice_get-get_or c.deref.result.now c.args.place there c.in-Some.ensures.lookup.3.0
    ∙ ap Some (sym c.in-Some.ensures.lookup.1) in (
      λ yes. found ∙ ap Some (g.met.Node.EntityRef.exact there c.args.node (sym c.eq.ensures ∙ yes)),
      λ is.
          let both : Some there ≡ Some c.args.node = sym found ∙ is in
          let same : there ≡ c.args.node = cc in
          c.eq.ensures ∙ subst (λ n. eq there n ≡ true) same (g.met.Node.Eq.laws.refl there),
    )

pub returns-in-None : goal.returns-in-None
returns-in-None g c =
    let none : slice_get c.args.self.now.stack c.args.place ≡ None =
    ap (λ held. slice_get held.stack c.args.place) (sym c.self.view_is)
    ∙ ap (λ ns. slice_get ns c.args.place) (sym c.deref.ensures.value)
    ∙ slice_get_past c.deref.result.now c.args.place c.in-None.ensures.lookup.3 in
    (λ no. absurd (true≢false (sym no)), λ is. let bad : None ≡ Some c.args.node = sym none ∙ is in cc)
