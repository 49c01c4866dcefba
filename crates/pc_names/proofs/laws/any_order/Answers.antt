use Rattle.pc_names.proofs.AnswerLemmas.{same_answers}
use Rattle.pc_names.proofs.laws.any_order.Goals as goal

pub returns : goal.returns
returns g c = same_answers
