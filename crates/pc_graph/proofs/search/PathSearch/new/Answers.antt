use Rattle.pc_graph.proofs.HeldLemmas.{stands_empty}
use Rattle.pc_graph.proofs.search.PathSearch.new.Goals as goal

pub returns : goal.returns
returns g c = stands_empty g.Node.EntityRef.number _ (λ i. record {
  stack = c.new.ensures.items i;
  heads = c.new-2.ensures.items i;
  noted = c.new-3.ensures i;
  nodes = c.new-4.ensures.items i;
  ends = c.new-5.ensures.items i;
})
