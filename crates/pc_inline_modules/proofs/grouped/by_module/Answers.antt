use Rattle.std.proofs.Common.{◌<◌, Some, length, ap, sym, ◌∙◌, arith}
use Rattle.std.proofs.lemmas.Option.{slice_get-get_or}
use Rattle.pc_inline_modules.specs.Grouped.{with_argument}
use Rattle.pc_inline_modules.proofs.GroupLemmas.{argument_next, arguments_all}
use Rattle.pc_inline_modules.proofs.grouped.by_module.Goals as goal

pub loop-place-preserved : goal.loop-place-preserved
loop-place-preserved c =
    let n = c.loop-place.place in
    let is = c.args.imports.now in
    let ds = c.args.defs.now in
    let x = c.index-imports-place.result in
    let d = c.index-defs-place.result in
    let within : n < length is = omega (arith, c.loop-place-test.true) in
    let each = c.requires.each in
    let also : n < length ds = omega (arith, within, each) in
    let import_at = slice_get-get_or is n x within ∙ ap Some (sym c.index-imports-place.is) in
    let def_at = slice_get-get_or ds n d also ∙ ap Some (sym c.index-defs-place.is) in
    c.in_ok-add_argument.ensures
    ∙ ap (λ e. with_argument c.loop-place.args x.0 x.1 e)
    c.in_ok-try_clone.ensures
    ∙ ap (λ args. with_argument args x.0 x.1 d)
    c.loop-place.invariant
    ∙ argument_next is ds each c.requires.apart n x d import_at def_at

pub returns : goal.returns
returns c =
    c.loop-place.invariant
    ∙ arguments_all c.args.imports.now c.args.defs.now c.requires.each c.loop-place.place c.loop-place-test.false
