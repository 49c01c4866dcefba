use Rattle.pc_names.proofs.CallerLemmas.{definitions_of-new}
use Rattle.pc_names.proofs.laws.new_name.Goals as goal

pub returns : goal.returns
returns g c = definitions_of-new
