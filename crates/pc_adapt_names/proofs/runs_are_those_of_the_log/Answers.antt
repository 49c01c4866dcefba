use Rattle.pc_adapt_names.proofs.NeedsLemmas.{fewest_of_log}
use Rattle.pc_adapt_names.proofs.runs_are_those_of_the_log.Goals as goal

pub returns : goal.returns
returns c g l runs made least = fewest_of_log g l made runs least
