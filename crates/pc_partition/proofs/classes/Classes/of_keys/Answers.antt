-- The least places of keys are least numbers.
use Rattle.pc_partition.proofs.ClassLemmas.{least_of_keys}
use Rattle.pc_partition.proofs.classes.Classes.of_keys.Goals as goal

pub invariant_of-result : goal.invariant_of-result
invariant_of-result g c = least_of_keys c.args.keys.now c.in_ok-least.least c.in_ok-least.ensures c.requires.numbered
