use Rattle.std.proofs.Common.{◌∙◌, ap, sym, length}
use Rattle.pc_graph.proofs.PartLemmas.{length-cut}
use Rattle.pc_graph.proofs.scc_iter.SccValuesExactSizeIterator.len.Goals as goal

pub returns-clause-value : goal.returns-clause-value
returns-clause-value g c = sym (length-cut c.self.inside.start c.self.inside.nodes.now c.self.inside.ends.now)
    ∙ ap length c.self.view_is
