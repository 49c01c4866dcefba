use Rattle.std.proofs.Common.{◌∙◌, ap, sym, length}
use Rattle.pc_graph.proofs.NumberLemmas.{length-numbered}
use Rattle.pc_graph.proofs.scc_iter.SccIterExactSizeIterator.len.Goals as goal

pub returns-clause-value : goal.returns-clause-value
returns-clause-value g c =
    c.len.ensures.value ∙ sym (length-numbered c.self.inside.number c.self.inside.values) ∙ ap length c.self.view_is
