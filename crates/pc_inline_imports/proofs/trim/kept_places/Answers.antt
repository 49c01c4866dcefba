use Rattle.std.proofs.Common.{[], ◌<◌, ◌+◌, ◌++◌, ◌∷◌, ◌∙◌, ◌≡◌, ap, arith, length}
use Rattle.std.proofs.lemmas.Option.{slice_get-get_or}
use Rattle.pc_inline_imports.proofs.TrimLemmas.{kept_next, kept_none}
use Rattle.pc_inline_imports.proofs.trim.kept_places.Goals as goal

pub loop-number-init : goal.loop-number-init
loop-number-init c =
    kept_none c.args.places.now c.args.marks.now _ c.new-kept.ensures _
    (c.in_ok-push.ensures.items ∙ ap (λ xs. xs ++ 0 ∷ []) c.new-numbers.ensures.items)

pub loop-number-preserved : goal.loop-number-preserved
loop-number-preserved c =
    let places = c.args.places.now in
    let marks = c.args.marks.now in
    let k = c.loop-number.number in
    let within : k < length places = omega (arith, c.loop-number-test.true) in
    let next : k + 1 < length marks = omega (arith, within, c.requires.count) in
    kept_next places marks k _ _ c.loop-number.invariant _
    (slice_get-get_or places k _ within) _ (slice_get-get_or marks (k + 1) _ next) _ _ c.in_ok-keep_place.ensures

pub returns-clause-kept : goal.returns-clause-kept
returns-clause-kept c t found names marked named = c.loop-number.invariant.marked t found names marked named

pub returns-clause-count : goal.returns-clause-count
returns-clause-count c =
    let all : c.loop-number.number ≡ length c.args.places.now = omega (arith, c.loop-number-test.false, c.loop-number.auto.number-end)
    in
    c.loop-number.invariant.count ∙ ap (λ n. n + 1) all
