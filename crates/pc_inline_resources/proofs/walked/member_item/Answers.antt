use Rattle.pc_inline_resources.proofs.WalkedLemmas.{item_instance}
use Rattle.pc_inline_resources.proofs.walked.member_item.Goals as goal

pub instance_item-requires-clause-is : goal.instance_item-requires-clause-is
instance_item-requires-clause-is c =
    (c.requires.is.0, item_instance _ _ _ _ c.instance_of.ensures c.requires.is.0 c.requires.is.1)

pub returns : goal.returns
returns c name number v is =
    c.instance_item.ensures name number v (item_instance _ _ _ _ c.instance_of.ensures v is)
