use Rattle.std.proofs.Common.{◌∷◌, length, subst}
use Rattle.pc_graph.specs.Classes.{Ascend}
use Rattle.pc_graph.proofs.PartLemmas.{ascend_last}
use Rattle.pc_graph.proofs.scc_iter.SccValuesIterator.next.Goals as goal

pub part-nodes-requires-clause-within : goal.part-nodes-requires-clause-within
part-nodes-requires-clause-within g c =
    let last = length c.self.inside.nodes.now in
    let ascend : Ascend c.self.inside.start (c.in_ok-end.end.now ∷ c.in_ok-end.ends.now) last =
    subst (λ ends. Ascend c.self.inside.start ends last) c.in_ok-end.ensures.cases.0 c.self.invariant in
    ascend_last c.in_ok-end.end.now c.in_ok-end.ends.now last ascend.1
