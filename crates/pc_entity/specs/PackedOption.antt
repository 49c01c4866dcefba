-- A packed option as an option.
use Rattle.std.specs.Prelude.{Option, None, Some}
use Rattle.pc_entity.specs.declared.packed_option.PackedOption.{PackedOption}
use Rattle.pc_entity.specs.declared.packed_option.PackedOption.TheVariants as packed

-- the number that a packed option holds, or none
abbrev pub as_option : {K : Type 0} → PackedOption K → Option K
as_option packed.None = None
as_option (packed.Some key) = Some key
