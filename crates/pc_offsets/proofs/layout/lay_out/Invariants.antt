use Rattle.std.proofs.Common.{◌≡◌, ◌≤◌, ◌++◌, length, take, drop}
use Rattle.pc_offsets.specs.Layout.{AreAligned, end_from, offsets, offsets_from, size_of}
use Rattle.pc_offsets.proofs.layout.lay_out.Given as goal

abbrev pub invariant-loop-n : goal.invariant-loop-n
invariant-loop-n l = record {
  laid : offsets l.fields ≡ take l.n l.starts ++ offsets_from l.at (drop l.n l.fields);
  sized : size_of l.fields ≡ end_from l.at (drop l.n l.fields);
  aligned : AreAligned (drop l.n l.fields);
  fits : l.at ≤ 4294967295;
  long : length l.starts ≡ 12;
}
