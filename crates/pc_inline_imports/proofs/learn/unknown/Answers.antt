use Rattle.std.proofs.Common.{◌<◌, ap, arith, length, ◌∙◌}
use Rattle.std.specs.Prelude.{filter}
use Rattle.std.proofs.lemmas.List.{take_all}
use Rattle.std.proofs.lemmas.Option.{slice_get-get_or}
use Rattle.pc_inline_imports.specs.Learns.{is_free}
use Rattle.pc_inline_imports.proofs.LearnLemmas.{kept_more}
use Rattle.pc_inline_imports.proofs.learn.unknown.Goals as goal

pub loop-one-preserved : goal.loop-one-preserved
loop-one-preserved c =
    let xs = c.args.found.now in
    let k = c.loop-one.one-index in
    let within : k < length xs = omega (arith, c.loop-one-test.true) in
    kept_more (is_free c.args.state.now.types.resources.known) xs k _ within (slice_get-get_or xs k _ within) _ _
    c.in_ok-keep_unknown.ensures c.loop-one.invariant

pub returns : goal.returns
returns c =
    c.loop-one.invariant
    ∙ ap (filter (is_free c.args.state.now.types.resources.known))
    (take_all c.loop-one.one-index c.args.found.now c.loop-one-test.false)
