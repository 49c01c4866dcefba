use Rattle.std.proofs.Common.{◌∙◌, sym}
use Rattle.pc_types_lists.proofs.KeptTypes.{keeps_same, keeps_whatever}
use Rattle.pc_inline_stack.proofs.driver.child_types.Goals as goal

pub exchange_plain-requires : goal.exchange_plain-requires
exchange_plain-requires c =
    c.requires.converted.1.all.room ∙ sym (c.new-converted.ensures.converted c.requires.converted.0).all.room

pub returns-clause-stays : goal.returns-clause-stays
returns-clause-stays c b are =
    c.exchange_plain.ensures.here _ b b c.requires.sound (keeps_same b) (c.new-converted.ensures.converted b) are

pub returns-clause-child : goal.returns-clause-child
returns-clause-child c b k are =
    c.exchange_plain.ensures.there _ b (record b { resources = k }) c.requires.sound
    (keeps_whatever b b b.resources k (keeps_same b)) are (c.new-converted.ensures.converted _)
