use Rattle.std.proofs.Common.{◌∙◌, ap, sym, length}
use Rattle.pc_graph.proofs.NumberLemmas.{length-numbers}
use Rattle.pc_graph.proofs.scc_iter.SccKeysExactSizeIterator.len.Goals as goal

pub returns-clause-value : goal.returns-clause-value
returns-clause-value c = sym (length-numbers c.self.inside.number c.self.inside.left) ∙ ap length c.self.view_is
