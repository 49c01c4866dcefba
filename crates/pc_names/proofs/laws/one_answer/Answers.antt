use Rattle.pc_names.proofs.AnswerLemmas.{one_answer}
use Rattle.pc_names.proofs.laws.one_answer.Goals as goal

pub returns : goal.returns
returns g c = one_answer
