use Rattle.std.proofs.Common.{take}
use Rattle.pc_entity.proofs.FirstValues.{FindsAs}
use Rattle.pc_entity.proofs.by_name.first_values.Given as goal

abbrev pub invariant-loop-entry : goal.invariant-loop-entry
invariant-loop-entry g l = FindsAs l.found (take l.entry-index l.entries)
