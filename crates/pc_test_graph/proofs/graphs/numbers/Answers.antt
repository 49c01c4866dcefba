use Rattle.std.proofs.Common.{◌∷◌, [], ap, length, arith}
use Rattle.std.proofs.lemmas.List.{length-append}
use Rattle.pc_test_graph.proofs.NumberLemmas.{numbers_more}
use Rattle.pc_test_graph.proofs.graphs.numbers.Goals as goal

pub loop-number-preserved : goal.loop-number-preserved
loop-number-preserved c = record {
  so_long = omega (
    arith,
    ap length c.in_ok-push.ensures.items,
    length-append c.loop-number.list.items (record { 0 = c.loop-number.number } ∷ []),
    c.loop-number.invariant.so_long,
  );
  in_place = numbers_more c.loop-number.list.items _ c.loop-number.number c.loop-number.invariant.so_long
      c.loop-number.invariant.in_place c.in_ok-push.ensures.items;
}
