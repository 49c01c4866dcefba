use Rattle.pc_translate.proofs.MarkedLemmas.{all_exported}
use Rattle.pc_translate.proofs.TransparentLemmas.{tells_transparent, types_held}
use Rattle.pc_translate.proofs.translator.mark_transparent.Goals as goal

pub transparent_adapters-requires : goal.transparent_adapters-requires
transparent_adapters-requires c =
    let s = c.requires.stands in record { held = types_held s.0 s.1 _ _ s.2 s.3 }

pub returns-clause-tells : goal.returns-clause-tells
returns-clause-tells c = λ t ms r stands.
    tells_transparent t ms _ _ r stands (all_exported t ms _ _ r stands) _ c.in_ok-transparent.ensures
