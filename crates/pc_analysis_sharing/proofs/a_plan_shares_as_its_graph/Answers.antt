use Rattle.pc_analysis_sharing.proofs.SharingLemmas.{sharing}
use Rattle.pc_analysis_sharing.proofs.a_plan_shares_as_its_graph.Goals as goal

pub returns : goal.returns
returns c = sharing
