use Rattle.std.proofs.Common.{◌<◌, Some, ap, sym, subst, refl, ◌∙◌}
use Rattle.std.proofs.lemmas.Option.{slice_get_read}
use Rattle.std.proofs.lemmas.List.{length-set}
use Rattle.pc_dfg.specs.Lists as list
use Rattle.pc_inline_state.specs.Tables.{tables_of}
use Rattle.pc_inline_state.proofs.AddsPushLemmas.{import_adds}
use Rattle.pc_inline_state.proofs.FitsLemmas.{fits_grown}
use Rattle.pc_inline_state.proofs.GrowthLemmas.{graph_grown}
use Rattle.pc_inline_state.proofs.RefusedLemmas.{memory_lacks}
use Rattle.pc_inline_canon.proofs.RoomLemmas.{list_lacks}
use Rattle.pc_inline_canon.proofs.UsesLemmas.{used_again, used_new}
use Rattle.pc_inline_canon.proofs.lower.use_host.Goals as goal

pub returns-in-Some-clause-uses : goal.returns-in-Some-clause-uses
returns-in-Some-clause-uses c p held =
    let below = subst (λ n. c.args.path.0 < n) (sym c.requires.sound.used.room) c.requires.there in
    used_again c.args.context.now.table.now c.args.context.now.modules c.args.state.now c.args.path.0 c.in-Some.number
    c.requires.sound
    (slice_get_read c.args.state.now.used.items _ c.args.path.0 c.index.result.now refl below c.index.ensures
    ∙ ap Some c.in-Some.is) p held

pub returns-in_err-import-clause-err : goal.returns-in_err-import-clause-err
returns-in_err-import-clause-err c = memory_lacks _ _ c.from_residual.ensures.1

pub returns-in_err-number-clause-err : goal.returns-in_err-number-clause-err
returns-in_err-number-clause-err c =
    list_lacks list.imports _ _ c.push_import.ensures.grows _ _ c.in_err-number.was c.push_import.ensures.full.0 _
    c.from_residual-in_err-number.ensures.1

pub returns-clause-keeps : goal.returns-clause-keeps
returns-clause-keeps c =
    graph_grown (tables_of c.args.state.now) c.push_import.new.self c.push_import.ensures.grows
    (fits_grown _ _ c.push_import.ensures.grows (λ i. (c.push_import.ensures.rest i).imported_resources)
    (λ i. (c.push_import.ensures.rest i).resources))

pub returns-clause-adds : goal.returns-clause-adds
returns-clause-adds c =
    import_adds (tables_of c.args.state.now) c.push_import.new.self c.push_import.result _ c.push_import.ensures.rest
    c.push_import.ensures.ok c.push_import.ensures.err

pub returns-clause-uses : goal.returns-clause-uses
returns-clause-uses c p there =
    let below = subst (λ n. c.args.path.0 < n) (sym c.requires.sound.used.room) c.requires.there in
    used_new c.args.context.now.table.now c.args.context.now.modules c.args.state.now c.args.path.0 _ _ _ _ _
    c.push_import.ensures.grows c.push_import.ensures.rest c.in_ok-number.ensures.ok c.push_import.ensures.ordered
    c.in_ok-number.ensures.key refl (length-set _ _ _) c.requires.sound c.in_ok-import.ensures
    (slice_get_read _ _ c.args.path.0 _ refl below c.index.ensures ∙ ap Some c.in_default.is) below p there
