use Rattle.pc_partition.proofs.LawLemmas.{least_of_class, with_own}
use Rattle.pc_partition.proofs.laws.representatives_are_least.Goals as goal

pub returns : goal.returns
returns c = record { together = with_own; least = least_of_class }
