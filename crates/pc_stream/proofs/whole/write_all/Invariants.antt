use Rattle.std.proofs.Common.{◌≤◌, ◌-◌, length, take}
use Rattle.pc_stream.specs.Stream.{Takes}
use Rattle.pc_stream.proofs.whole.write_all.Given as goal

abbrev pub invariant-loop-taken : goal.invariant-loop-taken
invariant-loop-taken g l = record {
  later : g.W.Sink.faults l.fn.out ≤ g.W.Sink.faults l.out;
  within : l.taken ≤ length l.text;
  front : Takes (g.W.Sink.written l.fn.out) (g.W.Sink.written l.out) (take l.taken l.text);
}

abbrev pub decreases-loop-taken : goal.decreases-loop-taken
decreases-loop-taken g l = length l.text - l.taken
