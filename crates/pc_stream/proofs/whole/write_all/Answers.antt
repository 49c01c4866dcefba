use Rattle.std.proofs.Common.{arith}
use Rattle.pc_stream.proofs.StreamLemmas.{Takes-nil, Takes-front}
use Rattle.pc_stream.proofs.whole.write_all.Goals as goal

pub loop-taken-init : goal.loop-taken-init
loop-taken-init g c = record { later = omega arith; within = omega arith; front = Takes-nil _ }

pub loop-taken-preserved : goal.loop-taken-preserved
loop-taken-preserved g c = record {
  later = omega (arith, c.loop-taken.invariant.later, c.in_ok-taken.ensures.never_falls);
  within = omega (arith, c.in_ok-taken.ensures.within, c.loop-taken.invariant.within);
  front = Takes-front _ _ _ c.args.text.now c.loop-taken.taken _ c.loop-taken.invariant.front
      c.in_ok-taken.ensures.front;
}
