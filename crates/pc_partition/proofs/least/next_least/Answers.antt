-- A place has a key, or is alone.
use Rattle.std.proofs.Common.{◌∙◌, ap, Some}
use Rattle.pc_partition.proofs.FirstLemmas.{no_key}
use Rattle.pc_partition.proofs.least.next_least.Goals as goal

pub returns-in-None : goal.returns-in-None
returns-in-None g c keys so_far here = no_key _ _ _ so_far (here ∙ ap Some c.in-None.is)
