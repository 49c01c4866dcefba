use Rattle.std.proofs.Common.{◌<◌, ◌≤◌, ◌-◌, vec_len}
use Rattle.pc_stream.specs.Stream.{Gives}
use Rattle.pc_stream.proofs.whole.read_all.Given as goal

abbrev pub invariant-loop-bytes : goal.invariant-loop-bytes
invariant-loop-bytes g l = record {
  room : 0 < vec_len l.piece;
  fits : vec_len l.bytes ≤ 67108864;
  later : g.S.Source.faults l.fn.src ≤ g.S.Source.faults l.src;
  front : Gives (g.S.Source.left l.fn.src) (g.S.Source.left l.src) l.bytes.items;
}

abbrev pub decreases-loop-bytes : goal.decreases-loop-bytes
decreases-loop-bytes g l = 67108864 - vec_len l.bytes
