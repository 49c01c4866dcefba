use Rattle.std.proofs.Common.{◌∙◌, ap, ◌++◌}
use Rattle.std.proofs.lemmas.List.{append-nil}
use Rattle.pc_graph.specs.Steps.{visits_of}
use Rattle.pc_graph.proofs.RemainsLemmas.{tour_from_roots}
use Rattle.pc_graph.proofs.dfs.Dfs.new.Goals as goal

pub returns-clause-tour : goal.returns-clause-tour
returns-clause-tour g c = λ d events met.
    tour_from_roots d c.args.roots.now c.add_roots.new.self
    (c.in_ok-add_roots.ensures.ok ∙ ap (λ stack. visits_of c.args.roots.now ++ stack) c.empty-dfs.ensures
    ∙ append-nil (visits_of c.args.roots.now)) events met
