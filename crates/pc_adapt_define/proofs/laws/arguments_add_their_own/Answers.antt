use Rattle.pc_adapt_define.proofs.OwnSlotLemmas.{own_from}
use Rattle.pc_adapt_define.proofs.laws.arguments_add_their_own.Goals as goal

pub returns : goal.returns
returns c g h a x lift lower clear before after at all = own_from g h a x lift lower clear at all.only
