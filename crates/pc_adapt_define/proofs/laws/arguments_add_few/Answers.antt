use Rattle.pc_adapt_define.proofs.FewLemmas.{adds_few}
use Rattle.pc_adapt_define.proofs.laws.arguments_add_few.Goals as goal

pub returns : goal.returns
returns c g h s x lift lower clear before after all = adds_few g h s x lift lower clear before after all
