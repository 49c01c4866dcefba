use Rattle.pc_translate.proofs.FewPlacesLemmas.{lacks_place}
use Rattle.pc_translate.proofs.HeldModuleLemmas.{held_unchanged}
use Rattle.pc_translate.proofs.module_types.module_types.Goals as goal

pub returns-clause-full : goal.returns-clause-full
returns-clause-full c is =
    lacks_place _ _ _ _ c.requires.are_modules c.types_are_distinct.ensures c.convert_items-converted.ensures.adds
    (c.convert_items-converted.ensures.full is)

pub returns-clause-unchanged : goal.returns-clause-unchanged
returns-clause-unchanged c held =
    held_unchanged _ _ _ _ c.convert_items-converted.ensures.grows c.types_are_distinct.ensures
    c.convert_items-converted.ensures.adds held
