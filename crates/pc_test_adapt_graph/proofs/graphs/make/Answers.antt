use Rattle.std.proofs.Common.{arith}
use Rattle.std.proofs.lemmas.Result.{on_ok_weaker}
use Rattle.pc_test_adapt_graph.proofs.HeldLemmas.{held_none}
use Rattle.pc_test_adapt_graph.proofs.graphs.make.Goals as goal

pub returns : goal.returns
returns c = record {
  ordered = on_ok_weaker c.push_instance.result
      (λ kept. kept (held_none c.args.graph.now _ c.new.result c.new.ensures) (omega (arith, c.if-graph-lt3.false))
      c.requires.ordered) c.push_instance.ensures.ordered;
}
