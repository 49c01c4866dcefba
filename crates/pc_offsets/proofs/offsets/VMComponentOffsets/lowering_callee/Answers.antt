use Rattle.std.proofs.Common.{refl}
use Rattle.pc_offsets.proofs.offsets.VMComponentOffsets.lowering_callee.Goals as goal

pub returns : goal.returns
returns g c = record {
  start = c.lowerings.result.start;
  count = c.lowerings.result.count;
  size = c.lowerings.result.size;
  array = c.lowerings.ensures;
  at = rw (c.at.ensures, c.lowering_callee_offset.ensures) refl;
}
