use Rattle.pc_translate.proofs.CauseLemmas.{components_in, counts_program, held_in, is_below, modules_in}
use Rattle.pc_translate.proofs.CauseLemmas.{modules_sound_in, plan_refused, root_in, table_in, translates_program}
use Rattle.pc_translate.proofs.translator.translate_program.Goals as goal

pub plan_of-requires-clause-table : goal.plan_of-requires-clause-table
plan_of-requires-clause-table c = let p = c.requires.program in table_in _ p.0 _ p.1 _ _ p.2

pub plan_of-requires-clause-modules : goal.plan_of-requires-clause-modules
plan_of-requires-clause-modules c = let p = c.requires.program in modules_sound_in _ p.0 _ p.1 _ _ p.2

pub plan_of-requires-clause-stands : goal.plan_of-requires-clause-stands
plan_of-requires-clause-stands c =
    let stands = c.requires.program.2.stands in (stands.body, stands.root)

pub plan_of-requires-clause-root : goal.plan_of-requires-clause-root
plan_of-requires-clause-root c = let p = c.requires.program in root_in _ p.0 _ p.1 _ _ p.2

pub plan_of-requires-clause-components : goal.plan_of-requires-clause-components
plan_of-requires-clause-components c = let p = c.requires.program in components_in _ p.0 _ p.1 _ _ p.2

pub plan_of-requires-clause-below : goal.plan_of-requires-clause-below
plan_of-requires-clause-below c = let p = c.requires.program in is_below _ p.0 _ p.1 _ _ p.2

pub plan_of-requires-clause-held : goal.plan_of-requires-clause-held
plan_of-requires-clause-held c = let p = c.requires.program in held_in _ p.0 _ p.1 _ _ p.2

pub plan_of-requires-clause-begins : goal.plan_of-requires-clause-begins
plan_of-requires-clause-begins c = let p = c.requires.program in modules_in _ p.0 _ p.1 _ _ p.2

pub returns-in_err-translated-clause-refused : goal.returns-in_err-translated-clause-refused
returns-in_err-translated-clause-refused c = λ exposed ps is.
    plan_refused _ exposed _ ps _ _ is _ c.args.types.now c.plan_of.new.types _ _ c.from_residual.ensures.1
    c.in_err-translated.ensures.plan

pub returns-in_err-translated-clause-adds : goal.returns-in_err-translated-clause-adds
returns-in_err-translated-clause-adds c = c.in_err-translated.ensures.adds

pub returns-clause-counts : goal.returns-clause-counts
returns-clause-counts c = λ exposed ps is.
    counts_program _ exposed _ ps _ _ is _ _ _ _ c.in_ok-translated.ensures.plan

-- what is left out here is read off the clause; a `Translates` that is written out would be compared field by field
pub returns-clause-translated : goal.returns-clause-translated
returns-clause-translated c = λ exposed ps is.
    translates_program _ exposed _ ps _ _ is _ c.args.types.now _ _ c.in_ok-translated.ensures.plan
    (record { builder = c.types_are_distinct.ensures; trees = c.numbers_are_trees.ensures })
