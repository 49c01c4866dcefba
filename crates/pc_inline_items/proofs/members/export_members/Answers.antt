use Rattle.std.proofs.Common.{◌<◌, [], Some, length, subst, sym, ap, ◌∙◌, arith, take}
use Rattle.std.proofs.lemmas.Option.{slice_get-get_or}
use Rattle.pc_entity.proofs.LookupLemmas.{done_here}
use Rattle.pc_inline_state.specs.Named.{export_name}
use Rattle.pc_inline_items.specs.Members.{ExportsSoFar}
use Rattle.pc_inline_items.proofs.MemberLemmas.{exports_begin, exports_next, item_number, items_numbered, types_so_far}
use Rattle.pc_inline_items.proofs.NameLemmas.{apart_at}
use Rattle.pc_inline_items.proofs.members.export_members.Goals as goal

pub loop-place-init : goal.loop-place-init
loop-place-init c =
    subst (λ es. ExportsSoFar c.args.context.now.table.now c.args.context.now.modules [] c.args.state.now
    c.args.frame.now c.args.state.now c.args.frame.now es) (sym c.new-members.ensures)
    (exports_begin c.args.context.now.table.now c.args.context.now.modules c.args.state.now c.args.frame.now)

pub bounds-numbers-place : goal.bounds-numbers-place
bounds-numbers-place c =
    let within : c.loop-place.place < length c.args.exports.now = omega (arith, c.loop-place-test.true) in
    let many = items_numbered c.args.state.now.names.now.texts export_name c.args.exports.now c.args.numbers.now
    c.requires.numbered in
    omega (arith, within, many)

pub add_export-requires-clause-here : goal.add_export-requires-clause-here
add_export-requires-clause-here c =
    (c.requires.here.0, c.loop-place.invariant.takes.stands c.requires.here.0 c.requires.here.1)

pub loop-place-preserved : goal.loop-place-preserved
loop-place-preserved c =
    let xs = c.args.exports.now in
    let i = c.loop-place.place in
    let x = c.index-exports-place.result in
    let within : i < length xs = omega (arith, c.loop-place-test.true) in
    let at = slice_get-get_or xs i _ within ∙ ap Some (sym c.index-exports-place.is) in
    subst (λ ys. ExportsSoFar c.args.context.now.table.now c.args.context.now.modules ys c.args.state.now
    c.args.frame.now c.add_export.new.state c.add_export.new.frame c.add_export.new.members)
    (sym (done_here xs i x within c.index-exports-place.is))
    (exports_next _ _ _ _ _ _ _ _ (take i xs) x _ _ _ c.requires.here.1.sound.names.distinct
    (item_number _ export_name xs c.args.numbers.now c.requires.numbered i x _ at) c.loop-place.invariant
    c.add_export.ensures.takes
    c.in_ok-add_export.ensures.adds (apart_at xs i x c.requires.named at))

pub returns-in_err-add_export-clause-takes : goal.returns-in_err-add_export-clause-takes
returns-in_err-add_export-clause-takes c =
    let xs = c.args.exports.now in
    let i = c.loop-place.place in
    let x = c.index-exports-place.result in
    let within : i < length xs = omega (arith, c.loop-place-test.true) in
    types_so_far _ _ _ _ _ _ _ _ xs i x (done_here xs i x within c.index-exports-place.is) c.loop-place.invariant.takes
    c.add_export.ensures.takes
