use Rattle.std.proofs.Common.{◌≡◌, ◌∷◌, ◌++◌, [], ◌∙◌, ap, sym, subst, refl, length, arith}
use Rattle.pc_entity.specs.SecondaryMap.{value_at, with_value_at}
use Rattle.pc_graph.specs.Searching.{Held, StandsFor}
use Rattle.pc_graph.specs.declared.search.Noted.TheVariants.{Unmet, OnStack}
use Rattle.pc_graph.proofs.HeldLemmas.{stands_met}
use Rattle.pc_graph.proofs.search.PathSearch.meet.Goals as goal

pub returns : goal.returns
returns g c = λ s stands.
    let number = g.Node.EntityRef.number in
    let injective : (a b : g.row.Node.Denot) → number a ≡ number b → a ≡ b = λ a b e.
    sym (g.met.Node.EntityRef.of_number_number a) ∙ ap g.Node.EntityRef.of_number e
    ∙ g.met.Node.EntityRef.of_number_number b in
    let held : Held g.row.Node.Denot = record {
      stack = c.self.inside.stack.items;
      heads = c.self.inside.heads.items;
      noted = c.self.inside.noted;
      nodes = c.self.inside.nodes.items;
      ends = c.self.inside.ends.items;
    } in
    let place : c.len-place.result ≡ length c.self.inside.stack.items = omega arith in
    let P : Held g.row.Node.Denot → Type 0 = λ h. StandsFor number h s in
    let Q : Held g.row.Node.Denot → Type 0 = λ h. value_at h.noted (number c.args.node) ≡ Unmet in (
      record { path = (c.args.node ∷ []) ∷ s.path; closed = s.closed },
      refl,
      stands_met number injective held _ s c.args.node (subst P (sym c.self.view_is) stands)
          (subst Q (sym c.self.view_is) c.requires)
          (λ i. record {
            stack = c.in_ok-push-2.ensures.items i;
            heads = (c.in_ok-push.ensures.items ∙ ap (λ k. c.self.inside.heads.items ++ k ∷ []) place) i;
            noted = (c.in_ok-set.ensures.ok
                ∙ ap (λ k. with_value_at c.self.inside.noted (number c.args.node) (OnStack k)) place) i;
            nodes = c.self.inside.nodes.items;
            ends = c.self.inside.ends.items;
          }),
    )
