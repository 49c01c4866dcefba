use Rattle.pc_partition.proofs.LawLemmas.{above_bottom, below_top, meet_greatest, meet_left, meet_right}
use Rattle.pc_partition.proofs.laws.meets_are_greatest_lower_bounds.Goals as goal

pub returns : goal.returns
returns c = record {
  left = meet_left;
  right = meet_right;
  greatest = meet_greatest;
  top = below_top;
  bottom = above_bottom;
}
