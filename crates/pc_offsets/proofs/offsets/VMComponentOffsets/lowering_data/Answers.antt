use Rattle.std.proofs.Common.{refl}
use Rattle.pc_offsets.proofs.offsets.VMComponentOffsets.lowering_data.Goals as goal

pub returns : goal.returns
returns g c = record {
  start = c.lowerings.result.start;
  count = c.lowerings.result.count;
  size = c.lowerings.result.size;
  array = c.lowerings.ensures;
  at = rw (c.at.ensures, c.lowering_data_offset.ensures) refl;
}
