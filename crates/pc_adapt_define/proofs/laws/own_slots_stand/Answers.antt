use Rattle.pc_adapt_define.proofs.OwnSlotLemmas.{own_stands}
use Rattle.pc_adapt_define.proofs.laws.own_slots_stand.Goals as goal

pub returns : goal.returns
returns c x k d own = own_stands x k d own
