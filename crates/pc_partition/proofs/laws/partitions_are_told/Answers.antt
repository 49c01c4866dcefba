use Rattle.pc_partition.proofs.LawLemmas.{told_once}
use Rattle.pc_partition.proofs.laws.partitions_are_told.Goals as goal

pub returns : goal.returns
returns c = told_once
