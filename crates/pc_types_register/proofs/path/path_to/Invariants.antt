use Rattle.std.proofs.Common.{◌≤◌, length}
use Rattle.pc_types_walk.specs.Walks.{AreNamed}
use Rattle.pc_types_register.proofs.PathLemmas.{Leads}
use Rattle.pc_types_register.proofs.path.path_to.Given as goal

abbrev pub invariant-up : goal.invariant-up
invariant-up l = record {
  within : l.at ≤ length l.places;
  leads : (names : _) → AreNamed l.table l.places names → Leads names l.place l.at l.path.items;
}

abbrev pub decreases-up : goal.decreases-up
decreases-up l = l.at
