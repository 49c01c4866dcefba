use Rattle.pc_analysis_origins.specs.Renumbered.{HasNumber}
use Rattle.pc_analysis_origins.proofs.RenumberedLemmas.{partitioned_there}
use Rattle.pc_analysis_origins.proofs.renumbered_instances_share_alike.Goals as goal

pub returns : goal.returns
returns g c lh rh number_of xs ys are m has = partitioned_there lh rh (HasNumber number_of) xs ys are m has
