use Rattle.std.proofs.Common.{◌∙◌, ap, sym, length, ◌≡◌, arith}
use Rattle.pc_graph.proofs.PartLemmas.{length-cut}
use Rattle.pc_graph.proofs.scc.StronglyConnectedComponents.len.Goals as goal

pub returns-clause-value : goal.returns-clause-value
returns-clause-value g c =
    let size : c.len.result ≡ length c.self.inside.ends.items = omega arith in
    size ∙ sym (length-cut 0 c.self.inside.nodes.items c.self.inside.ends.items) ∙ ap length c.self.view_is
