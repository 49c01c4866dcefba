use Rattle.std.proofs.Common.{refl}
use Rattle.pc_offsets.proofs.offsets.VMComponentOffsets.fields.Goals as goal

pub returns : goal.returns
returns g c =
    rw (
      c.field.ensures,
      c.field-2.ensures,
      c.field-3.ensures,
      c.field-4.ensures,
      c.field-5.ensures,
      c.field-6.ensures,
      c.field-7.ensures,
      c.field-8.ensures,
      c.field-9.ensures,
      c.field-10.ensures,
      c.field-11.ensures,
      c.field-12.ensures,
      c.size-p.ensures,
    ) refl
