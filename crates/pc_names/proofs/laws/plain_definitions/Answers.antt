use Rattle.pc_names.proofs.CallerLemmas.{definitions-plain}
use Rattle.pc_names.proofs.laws.plain_definitions.Goals as goal

pub returns : goal.returns
returns g c = definitions-plain
