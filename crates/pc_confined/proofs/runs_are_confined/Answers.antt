use Rattle.pc_confined.proofs.RunLemmas.{run_confined}
use Rattle.pc_confined.proofs.runs_are_confined.Goals as goal

pub returns : goal.returns
returns g c = run_confined
