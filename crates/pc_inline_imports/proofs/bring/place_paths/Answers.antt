use Rattle.std.proofs.Common.{[], ◌++◌, ◌∷◌, ◌∙◌, ap, arith}
use Rattle.std.proofs.lemmas.Option.{slice_get-get_or}
use Rattle.pc_inline_imports.proofs.GiveLemmas.{export_there, far_held, parent_there, paths_next, paths_start}
use Rattle.pc_inline_imports.proofs.bring.place_paths.Goals as goal

pub loop-place-init : goal.loop-place-init
loop-place-init c =
    let p = c.path_to_import.ensures in
    paths_start _ c.args.places.now c.args.import c.args.state.now _ _ c.in_ok-first.ensures.takes
    c.in_ok-first.ensures.sound p.keeps p.adds p.rest _
    (c.in_ok-push.ensures.items ∙ ap (λ xs. xs ++ c.in_ok-first.first ∷ []) c.new-paths.ensures.items)

pub push_place-requires-clause-there : goal.push_place-requires-clause-there
push_place-requires-clause-there c =
    export_there _ c.args.places.now c.args.import c.args.state.now _ _ _ c.loop-place.invariant c.requires.named
    _ (slice_get-get_or c.args.places.now c.loop-place.place-index _ (omega (arith, c.loop-place-test.true)))

pub push_place-requires-clause-parent : goal.push_place-requires-clause-parent
push_place-requires-clause-parent c =
    parent_there _ c.args.places.now c.args.import c.args.state.now _ _ _ c.loop-place.invariant c.requires.named
    _ (slice_get-get_or c.args.places.now c.loop-place.place-index _ (omega (arith, c.loop-place-test.true)))

pub push_place-requires-clause-held : goal.push_place-requires-clause-held
push_place-requires-clause-held c =
    far_held _ c.args.places.now c.args.import c.args.state.now _ _ _ c.loop-place.invariant c.requires.named

pub loop-place-preserved : goal.loop-place-preserved
loop-place-preserved c =
    let p = c.push_place.ensures in
    let q = c.in_ok-push_place.ensures in
    paths_next _ c.args.places.now c.args.import c.args.state.now _ _ _ c.loop-place.invariant _
    (slice_get-get_or c.args.places.now c.loop-place.place-index _ (omega (arith, c.loop-place-test.true))) _ _ q.further q.sound p.keeps p.adds p.rest

pub push_place-requires-clause-sound : goal.push_place-requires-clause-sound
push_place-requires-clause-sound c = c.loop-place.invariant.sound _ _ c.requires.sound
