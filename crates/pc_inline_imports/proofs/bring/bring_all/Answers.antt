use Rattle.std.proofs.Common.{◌<◌, arith, length, map, subst}
use Rattle.std.proofs.lemmas.List.{take_all}
use Rattle.std.proofs.lemmas.Option.{slice_get-get_or}
use Rattle.pc_entity.proofs.LookupLemmas.{found_at}
use Rattle.pc_inline_imports.specs.Brings.{Brings, path_at}
use Rattle.pc_inline_imports.proofs.BringLemmas.{brought_last, brought_less, brought_next, brought_start, held_still}
use Rattle.pc_inline_imports.proofs.BringLemmas.{undeclared_still}
use Rattle.pc_inline_imports.proofs.bring.bring_all.Goals as goal

pub loop-one-init : goal.loop-one-init
loop-one-init c = brought_start _ _ c.args.paths.now c.args.found.now _ c.requires.sound

pub bring_one-requires-clause-sound : goal.bring_one-requires-clause-sound
bring_one-requires-clause-sound c = c.loop-one.invariant.brings.sound

pub bring_one-requires-clause-undeclared : goal.bring_one-requires-clause-undeclared
bring_one-requires-clause-undeclared c =
    undeclared_still _ _ c.args.paths.now c.args.found.now _ _ _ c.loop-one.invariant c.requires.undeclared

pub bring_one-requires-clause-there : goal.bring_one-requires-clause-there
bring_one-requires-clause-there c =
    c.requires.there c.loop-one.one-index _
    (slice_get-get_or c.args.found.now c.loop-one.one-index _ (omega (arith, c.loop-one-test.true)))

pub bring_one-requires-clause-held : goal.bring_one-requires-clause-held
bring_one-requires-clause-held c =
    held_still _ _ c.args.paths.now c.args.found.now _ _ _ c.loop-one.invariant c.requires.held

pub loop-one-preserved : goal.loop-one-preserved
loop-one-preserved c =
    brought_next _ _ c.args.paths.now c.args.found.now _ _ _ c.loop-one.invariant _
    (omega (arith, c.loop-one-test.true))
    (slice_get-get_or c.args.found.now c.loop-one.one-index _ (omega (arith, c.loop-one-test.true))) _
    c.bring_one.ensures.keeps c.bring_one.ensures.adds
    c.in_ok-bring_one.ensures.brings

pub returns-in_err-bring_one-clause-keeps : goal.returns-in_err-bring_one-clause-keeps
returns-in_err-bring_one-clause-keeps c =
    let within : c.loop-one.one-index < length c.args.found.now = omega (arith, c.loop-one-test.true) in
    let there = found_at c.args.found.now c.loop-one.one-index within in
    (brought_last _ _ c.args.paths.now c.args.found.now _ _ _ c.loop-one.invariant there.0 within there.1
    c.bring_one.new.state c.bring_one.ensures.keeps c.bring_one.ensures.adds).0

pub returns-in_err-bring_one-clause-adds : goal.returns-in_err-bring_one-clause-adds
returns-in_err-bring_one-clause-adds c =
    let within : c.loop-one.one-index < length c.args.found.now = omega (arith, c.loop-one-test.true) in
    let there = found_at c.args.found.now c.loop-one.one-index within in
    (brought_last _ _ c.args.paths.now c.args.found.now _ _ _ c.loop-one.invariant there.0 within there.1
    c.bring_one.new.state c.bring_one.ensures.keeps c.bring_one.ensures.adds).1

pub returns-clause-keeps : goal.returns-clause-keeps
returns-clause-keeps c = c.loop-one.invariant.keeps

pub returns-clause-adds : goal.returns-clause-adds
returns-clause-adds c =
    brought_less _ _ (omega (arith, c.loop-one.auto.one-index-end)) _ _ c.loop-one.invariant.adds

pub returns-clause-brings : goal.returns-clause-brings
returns-clause-brings c =
    subst (λ xs. Brings c.args.context.now.table.now c.args.context.now.modules
    (map (path_at c.args.paths.now c.args.state.now.paths.held) xs) c.args.state.now c.loop-one.state)
    (take_all c.loop-one.one-index c.args.found.now c.loop-one-test.false) c.loop-one.invariant.brings
