use Rattle.pc_names.proofs.VersionLemmas.{track-cut}
use Rattle.pc_names.proofs.laws.track_is_cut.Goals as goal

pub returns : goal.returns
returns c = track-cut
