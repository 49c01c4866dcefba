use Rattle.std.proofs.Common.{ap, arith, length, map, subst, sym, ◌∙◌, ◌<◌, ◌+◌}
use Rattle.pc_dfg.specs.Lists as list
use Rattle.pc_types_walk.specs.Walks.{AreNamed}
use Rattle.pc_inline_canon.proofs.RoomLemmas.{list_lacks}
use Rattle.pc_inline_state.specs.AddsEach.{AddsEach, nowhere}
use Rattle.pc_inline_state.specs.Tables.{tables_of}
use Rattle.pc_inline_state.proofs.AddsLemmas.{each_refl}
use Rattle.pc_inline_state.proofs.RefusedLemmas.{memory_lacks}
use Rattle.pc_inline_state.proofs.StateLemmas.{keeps_trans}
use Rattle.pc_inline_imports.specs.Brings.{AllBelow, AllHeld, Brings, in_brought, path_at}
use Rattle.pc_inline_imports.proofs.GiveLemmas.{below_paths, given_adds, gives_result, paths_held, typed_adds, typed_keeps}
use Rattle.pc_inline_imports.proofs.GiveLemmas.{path_read, typed_sound, typed_undeclared}
use Rattle.pc_inline_imports.proofs.bring.push_given.Goals as goal

pub returns-in_err-text-clause-err : goal.returns-in_err-text-clause-err
returns-in_err-text-clause-err c = memory_lacks _ _ c.from_residual.ensures.1

pub returns-in_err-number-clause-err : goal.returns-in_err-number-clause-err
returns-in_err-number-clause-err c =
    list_lacks list.import_types c.args.state.now _ c.push_import_type.ensures.grows _ _ c.in_err-number.was
    c.push_import_type.ensures.full.0 _ c.from_residual-in_err-number.ensures.1

pub returns-in_err-number-clause-keeps : goal.returns-in_err-number-clause-keeps
returns-in_err-number-clause-keeps c =
    let p = c.push_import_type.ensures in
    typed_keeps c.args.context.now.table.now c.args.context.now.modules c.args.state.now c.push_import_type.new.self
    p.rest p.grows

pub returns-in_err-number-clause-adds : goal.returns-in_err-number-clause-adds
returns-in_err-number-clause-adds c =
    let p = c.push_import_type.ensures in
    let b = tables_of (record c.args.state.now { graph = c.push_import_type.new.self }) in
    let n = length c.args.learnt.now.found in
    given_adds n (tables_of c.args.state.now) b b b b
    (typed_adds (tables_of c.args.state.now) c.push_import_type.new.self c.push_import_type.result _ p.rest p.ok p.err)
    (each_refl nowhere 0 0 b) (each_refl (in_brought n) 0 0 b) (each_refl nowhere 0 1 b)

pub place_paths-requires-clause-sound : goal.place_paths-requires-clause-sound
place_paths-requires-clause-sound c =
    let p = c.push_import_type.ensures in
    typed_sound c.args.context.now.table.now c.args.context.now.modules c.args.state.now c.push_import_type.new.self
    p.rest p.grows _ c.in_ok-number.ensures.ok c.requires.sound p.ordered

pub returns-in_err-paths-clause-keeps : goal.returns-in_err-paths-clause-keeps
returns-in_err-paths-clause-keeps c =
    let p = c.push_import_type.ensures in
    keeps_trans _ _ _
    (typed_keeps c.args.context.now.table.now c.args.context.now.modules c.args.state.now c.push_import_type.new.self
    p.rest p.grows) c.place_paths.ensures.keeps

pub returns-in_err-paths-clause-adds : goal.returns-in_err-paths-clause-adds
returns-in_err-paths-clause-adds c =
    let p = c.push_import_type.ensures in
    let b = tables_of (record c.args.state.now { graph = c.push_import_type.new.self }) in
    let d = tables_of c.place_paths.new.state in
    let n = length c.args.learnt.now.found in
    given_adds n (tables_of c.args.state.now) b d d d
    (typed_adds (tables_of c.args.state.now) c.push_import_type.new.self c.push_import_type.result _ p.rest p.ok p.err)
    c.place_paths.ensures.adds (each_refl (in_brought n) 0 0 d) (each_refl nowhere 0 1 d)

pub returns-in_err-paths-clause-err : goal.returns-in_err-paths-clause-err
returns-in_err-paths-clause-err c = memory_lacks _ _ c.from_residual-in_err-paths.ensures.1

pub bring_all-requires-clause-sound : goal.bring_all-requires-clause-sound
bring_all-requires-clause-sound c =
    let p = c.push_import_type.ensures in
    c.in_ok-paths.ensures.sound _ _
    (typed_sound c.args.context.now.table.now c.args.context.now.modules c.args.state.now c.push_import_type.new.self
    p.rest p.grows _ c.in_ok-number.ensures.ok c.requires.sound p.ordered)

pub bring_all-requires-clause-undeclared : goal.bring_all-requires-clause-undeclared
bring_all-requires-clause-undeclared c =
    let p = c.push_import_type.ensures in
    ap (λ s. s.graph.resources) c.place_paths.ensures.rest
    ∙ typed_undeclared c.args.context.now.table.now c.args.context.now.modules c.args.state.now
    c.push_import_type.new.self p.rest p.grows c.requires.undeclared

pub bring_all-requires-clause-there : goal.bring_all-requires-clause-there
bring_all-requires-clause-there c =
    let count = c.in_ok-paths.ensures.count ∙ ap (λ ps. length ps + 1) c.as_slice.ensures in
    subst (λ xs. AllBelow (length c.as_slice-ids.result.now) xs) (sym c.as_slice-2.ensures)
    (subst (λ ids. AllBelow (length ids) c.args.learnt.now.found) (sym c.as_slice-ids.ensures.value)
    (below_paths _ c.args.learnt.now c.in_ok-paths.paths.items count c.requires.named))

pub bring_all-requires-clause-held : goal.bring_all-requires-clause-held
bring_all-requires-clause-held c =
    let named = c.requires.named in
    subst (λ ids. AllHeld ids c.place_paths.new.state.paths.held) (sym c.as_slice-ids.ensures.value)
    (paths_held _ named.0 _ _ (c.in_ok-paths.ensures.paths named.0
    (subst (λ ps. AreNamed c.args.context.now.table.now ps named.0) (sym c.as_slice.ensures) named.1)))

pub returns-in_err-bring_all-clause-keeps : goal.returns-in_err-bring_all-clause-keeps
returns-in_err-bring_all-clause-keeps c =
    let p = c.push_import_type.ensures in
    keeps_trans _ _ _
    (keeps_trans _ _ _
    (typed_keeps c.args.context.now.table.now c.args.context.now.modules c.args.state.now c.push_import_type.new.self
    p.rest p.grows) c.place_paths.ensures.keeps) c.bring_all.ensures.keeps

pub returns-in_err-bring_all-clause-adds : goal.returns-in_err-bring_all-clause-adds
returns-in_err-bring_all-clause-adds c =
    let p = c.push_import_type.ensures in
    let b = tables_of (record c.args.state.now { graph = c.push_import_type.new.self }) in
    let d = tables_of c.bring_all.new.state in
    let n = length c.args.learnt.now.found in
    given_adds n (tables_of c.args.state.now) b (tables_of c.place_paths.new.state) d d
    (typed_adds (tables_of c.args.state.now) c.push_import_type.new.self c.push_import_type.result _ p.rest p.ok p.err)
    c.place_paths.ensures.adds
    (subst (λ xs. AddsEach (in_brought (length xs)) 0 0 (tables_of c.place_paths.new.state) d) c.as_slice-2.ensures
    c.bring_all.ensures.adds) (each_refl nowhere 0 1 d)

pub returns-clause-keeps : goal.returns-clause-keeps
returns-clause-keeps c =
    let p = c.push_import_type.ensures in
    keeps_trans _ _ _
    (keeps_trans _ _ _
    (keeps_trans _ _ _
    (typed_keeps c.args.context.now.table.now c.args.context.now.modules c.args.state.now c.push_import_type.new.self
    p.rest p.grows) c.place_paths.ensures.keeps) c.bring_all.ensures.keeps) c.push_definition.ensures.keeps

pub returns-clause-adds : goal.returns-clause-adds
returns-clause-adds c =
    let p = c.push_import_type.ensures in
    let b = tables_of (record c.args.state.now { graph = c.push_import_type.new.self }) in
    let d = tables_of c.bring_all.new.state in
    let n = length c.args.learnt.now.found in
    given_adds n (tables_of c.args.state.now) b (tables_of c.place_paths.new.state) d _
    (typed_adds (tables_of c.args.state.now) c.push_import_type.new.self c.push_import_type.result _ p.rest p.ok p.err)
    c.place_paths.ensures.adds
    (subst (λ xs. AddsEach (in_brought (length xs)) 0 0 (tables_of c.place_paths.new.state) d) c.as_slice-2.ensures
    c.bring_all.ensures.adds) c.push_definition.ensures.adds

pub returns-clause-gives : goal.returns-clause-gives
returns-clause-gives c =
    let p = c.push_import_type.ensures in
    let t = c.args.context.now.table.now in
    let ms = c.args.context.now.modules in
    let mid = c.place_paths.new.state in
    let count = c.in_ok-paths.ensures.count ∙ ap (λ ps. length ps + 1) c.as_slice.ensures in
    let brings = subst (λ xs. Brings t ms (map (path_at c.in_ok-paths.paths.items mid.paths.held) xs) mid
    c.bring_all.new.state) c.as_slice-2.ensures
    (subst (λ ids. Brings t ms (map (path_at ids mid.paths.held) c.as_slice-2.result.now) mid c.bring_all.new.state)
    c.as_slice-ids.ensures.value c.in_ok-bring_all.ensures.brings) in
    let some : 0 < length c.as_slice-ids.result.now = subst (λ ids. 0 < length ids) (sym c.as_slice-ids.ensures.value)
    (omega (arith, count)) in
    gives_result t ms c.args.name.now c.args.entity c.args.learnt.now c.args.state.now c.push_import_type.new.self p.rest
    c.in_ok-number.number c.in_ok-number.ensures.key _ c.in_ok-text.ensures c.in_ok-number.ensures.ok mid
    c.in_ok-paths.paths.items (λ names named. c.in_ok-paths.ensures.paths names
    (subst (λ ps. AreNamed t ps names) (sym c.as_slice.ensures) named)) count c.place_paths.ensures.rest
    c.bring_all.new.state brings c.requires.named _
    (path_read c.in_ok-paths.paths.items c.as_slice-ids.result.now 0 _ c.as_slice-ids.ensures.value some) _
    c.host_definition-definition.ensures _ _
    c.push_definition.ensures.key c.push_definition.ensures.ok

pub returns-clause-err : goal.returns-clause-err
returns-clause-err c = c.push_definition.ensures.lacks
