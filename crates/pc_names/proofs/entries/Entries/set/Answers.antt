use Rattle.std.proofs.Common.{sym}
use Rattle.pc_names.proofs.PlaceLemmas.{with_value-past, none_inside_map}
use Rattle.pc_names.proofs.entries.Entries.set.Goals as goal

pub returns-in_default : goal.returns-in_default
returns-in_default g c = sym (with_value-past _ _ _ (none_inside_map _ _ (sym c.in_default.ensures.value)))
