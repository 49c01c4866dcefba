use Rattle.std.proofs.Common.{◌<◌, [], Some, length, subst, sym, ap, ◌∙◌, arith, take}
use Rattle.std.proofs.lemmas.Option.{slice_get-get_or}
use Rattle.pc_entity.proofs.LookupLemmas.{done_here}
use Rattle.pc_inline_names.specs.Named.{argument_name}
use Rattle.pc_inline_items.specs.Members.{ArgumentsSoFar}
use Rattle.pc_inline_items.proofs.MemberLemmas.{arguments_begin, arguments_next, item_number, items_numbered}
use Rattle.pc_inline_items.proofs.MemberLemmas.{types_so_far}
use Rattle.pc_inline_items.proofs.members.argument_values.Goals as goal

pub loop-place-init : goal.loop-place-init
loop-place-init c =
    subst (λ es. ArgumentsSoFar c.args.context.now.table.now c.args.context.now.modules [] c.args.state.now
    c.args.frame.now c.args.state.now c.args.frame.now es) (sym c.new-values.ensures)
    (arguments_begin c.args.context.now.table.now c.args.context.now.modules c.args.state.now c.args.frame.now)

pub bounds-numbers-place : goal.bounds-numbers-place
bounds-numbers-place c =
    let within : c.loop-place.place < length c.args.args.now = omega (arith, c.loop-place-test.true) in
    let many = items_numbered c.args.state.now.names.now.texts argument_name c.args.args.now
    c.args.numbers.now c.requires.numbered in
    omega (arith, within, many)

pub add_argument-requires-clause-here : goal.add_argument-requires-clause-here
add_argument-requires-clause-here c =
    (c.requires.here.0, c.loop-place.invariant.takes.stands c.requires.here.0 c.requires.here.1)

pub loop-place-preserved : goal.loop-place-preserved
loop-place-preserved c =
    let xs = c.args.args.now in
    let i = c.loop-place.place in
    let x = c.index-args-place.result in
    let within : i < length xs = omega (arith, c.loop-place-test.true) in
    let at = slice_get-get_or xs i _ within ∙ ap Some (sym c.index-args-place.is) in
    subst (λ ys. ArgumentsSoFar c.args.context.now.table.now c.args.context.now.modules ys c.args.state.now
    c.args.frame.now c.add_argument.new.state c.add_argument.new.frame c.add_argument.new.values)
    (sym (done_here xs i x within c.index-args-place.is))
    (arguments_next _ _ _ _ _ _ _ _ (take i xs) x _ _ _ c.requires.here.1.sound.names.distinct
    (item_number _ argument_name xs c.args.numbers.now c.requires.numbered i x _ at)
    c.loop-place.invariant c.add_argument.ensures.takes
    c.in_ok-add_argument.ensures.adds)

pub returns-in_err-add_argument-clause-takes : goal.returns-in_err-add_argument-clause-takes
returns-in_err-add_argument-clause-takes c =
    let xs = c.args.args.now in
    let i = c.loop-place.place in
    let x = c.index-args-place.result in
    let within : i < length xs = omega (arith, c.loop-place-test.true) in
    types_so_far _ _ _ _ _ _ _ _ xs i x (done_here xs i x within c.index-args-place.is) c.loop-place.invariant.takes
    c.add_argument.ensures.takes
