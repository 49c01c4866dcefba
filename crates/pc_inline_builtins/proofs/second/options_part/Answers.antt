use Rattle.pc_inline_builtins.proofs.PartLemmas.{options_stands}
use Rattle.pc_inline_builtins.proofs.second.options_part.Goals as goal

pub returns-clause-stands : goal.returns-clause-stands
returns-clause-stands c v stands =
    options_stands _ _ v (c.in_ok-options_entry.ensures.entry v stands) c.in_ok-options_entry.ensures.held
