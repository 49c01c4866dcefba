use Rattle.std.proofs.Common.{sym}
use Rattle.pc_types_convert.proofs.LayerLemmas.{exchanged_as}
use Rattle.pc_types_convert.proofs.done.Done.exchange_plain.Goals as goal

pub returns-clause-here : goal.returns-clause-here
returns-clause-here c =
    let here = c.self.inside in
    let there = c.other.inside in
    exchanged_as here.own here.plain here.users here.like there.own there.plain there.users there.like c.swap.new.x
    c.swap-2.new.x here.room there.room _ _ c.self.view_is c.other.view_is c.swap.ensures.x_after
    c.swap-2.ensures.x_after c.requires

pub returns-clause-there : goal.returns-clause-there
returns-clause-there c =
    let here = c.self.inside in
    let there = c.other.inside in
    exchanged_as there.own there.plain there.users there.like here.own here.plain here.users here.like c.swap.new.y
    c.swap-2.new.y there.room here.room _ _ c.other.view_is c.self.view_is c.swap.ensures.y_after
    c.swap-2.ensures.y_after (sym c.requires)
