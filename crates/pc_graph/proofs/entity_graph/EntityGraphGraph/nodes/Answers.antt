use Rattle.std.proofs.Common.{◌∙◌, arith}
use Rattle.pc_graph.proofs.ListingLemmas.{appended_more}
use Rattle.pc_graph.proofs.entity_graph.EntityGraphGraph.nodes.Goals as goal

pub loop-number-preserved : goal.loop-number-preserved
loop-number-preserved g c = record {
  room = omega arith;
  so_far = c.push_reserved.ensures.items
      ∙ appended_more g.Node.EntityRef.of_number c.args.into.now.items c.loop-number.into.items c.loop-number.number
      c.from_u32.result
      c.loop-number.invariant.so_far c.from_u32.ensures;
}
