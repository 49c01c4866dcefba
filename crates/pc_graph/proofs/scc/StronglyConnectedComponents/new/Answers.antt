use Rattle.std.proofs.Common.{◌∙◌, ap, sym, subst, arith}
use Rattle.pc_entity.specs.Lists.{AreDistinct}
use Rattle.pc_graph.specs.Classes.{AreComponents, flat}
use Rattle.pc_graph.specs.Evaporation.{IsClosed}
use Rattle.pc_graph.proofs.ComponentLemmas.{components_closed}
use Rattle.pc_graph.proofs.PartLemmas.{cut_again, ends_within}
use Rattle.pc_graph.proofs.scc.StronglyConnectedComponents.new.Goals as goal

pub returns-clause-components : goal.returns-clause-components
returns-clause-components g c = λ d shows.
    let (s, stands, components) = c.in_ok-search.ensures d shows in
    let nodes_are = ap (λ h. h.nodes) c.search.view_is ∙ stands.nodes in
    let ends_are = ap (λ h. h.ends) c.search.view_is ∙ stands.ends in
    subst (λ cs. AreComponents d cs) (sym (cut_again _ _ s.closed nodes_are ends_are)) components

pub returns-clause-closed : goal.returns-clause-closed
returns-clause-closed g c = λ d shows.
    let (s, stands, components) = c.in_ok-search.ensures d shows in
    let nodes_are = ap (λ h. h.nodes) c.search.view_is ∙ stands.nodes in
    let ends_are = ap (λ h. h.ends) c.search.view_is ∙ stands.ends in
    subst (λ cs. IsClosed d (flat cs)) (sym (cut_again _ _ s.closed nodes_are ends_are))
    (components_closed d s.closed components)

pub invariant_of-result : goal.invariant_of-result
invariant_of-result g c =
    let (d, shows) = c.requires in
    let (s, stands, components) = c.in_ok-search.ensures d shows in
    let nodes_are = ap (λ h. h.nodes) c.search.view_is ∙ stands.nodes in
    let ends_are = ap (λ h. h.ends) c.search.view_is ∙ stands.ends in (
      ends_within _ _ s.closed nodes_are ends_are,
      omega arith,
      subst (λ cs. AreDistinct (flat cs)) (sym (cut_again _ _ s.closed nodes_are ends_are)) components.once,
    )
