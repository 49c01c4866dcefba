use Rattle.pc_partition.proofs.LawLemmas.{meet_grouped, meet_itself, meet_turned, meet_with_bottom, meet_with_top}
use Rattle.pc_partition.proofs.laws.meets_are_a_semilattice.Goals as goal

pub returns : goal.returns
returns c = record {
  commutative = meet_turned;
  associative = meet_grouped;
  idempotent = meet_itself;
  top = meet_with_top;
  bottom = meet_with_bottom;
}
