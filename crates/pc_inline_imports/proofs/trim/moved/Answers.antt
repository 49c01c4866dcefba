use Rattle.std.proofs.Common.{◌<◌, ◌∙◌, ap, arith, length, map}
use Rattle.std.proofs.lemmas.List.{take_all}
use Rattle.std.proofs.lemmas.Option.{slice_get-get_or}
use Rattle.pc_inline_imports.specs.Trims.{moved_by}
use Rattle.pc_inline_imports.proofs.TrimLemmas.{moved_next}
use Rattle.pc_inline_imports.proofs.trim.moved.Goals as goal

pub loop-one-preserved : goal.loop-one-preserved
loop-one-preserved c =
    let xs = c.args.found.now in
    let k = c.loop-one.one-index in
    let within : k < length xs = omega (arith, c.loop-one-test.true) in
    moved_next c.args.numbers.now xs k _ within (slice_get-get_or xs k _ within) _ _ c.in_ok-push.ensures.ok
    c.loop-one.invariant

pub returns : goal.returns
returns c =
    c.loop-one.invariant
    ∙ ap (map (moved_by c.args.numbers.now)) (take_all c.loop-one.one-index c.args.found.now c.loop-one-test.false)
